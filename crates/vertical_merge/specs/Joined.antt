-- Series one after another, where neighbours under equal labels become one.
use Rattle.std.specs.Prelude.{List, [], ◌∷◌, ◌++◌, Bool, if◌then◌else◌}
use Rattle.std.specs.declared.cmp.Ordering.{Ordering}
use Rattle.std.specs.Ordering.{int_cmp, is_eq, is_lt}
use Rattle.std.specs.List.{dedup}
use Rattle.label_sets.specs.declared.sample.Sample.{Sample}
use Rattle.label_sets.specs.declared.series.Series.{Series}
use Rattle.label_sets.specs.Labels.{compare_sets}
use Rattle.base.specs.Ordered.{in_order}
use Rattle.base.specs.Lists.{joined as all_of}
use Rattle.vertical_merge.specs.declared.sample_merge.Parts.{Parts}

abbrev pub has_lesser_labels : Series → Series → Bool
has_lesser_labels one other = is_lt (compare_sets one.labels other.labels)

abbrev pub has_same_labels : Series → Series → Bool
has_same_labels one other = is_eq (compare_sets one.labels other.labels)

-- one series after another: those of both, or one where the labels are equal
unfoldable pub joined : Series → Series → List Series
joined one next =
    if has_same_labels one next then record { labels = one.labels; samples = one.samples ++ next.samples } ∷ []
    else one ∷ next ∷ []

-- these and a further one, which is joined to the last of them
unfoldable pub joined_to : List Series → Series → List Series
joined_to [] next = next ∷ []
joined_to (one ∷ []) next = joined one next
joined_to (one ∷ other ∷ series) next = one ∷ joined_to (other ∷ series) next

-- the one series of parts
abbrev pub series_of : Parts → Series
series_of one = record { labels = one.labels; samples = all_of one.parts.items }

abbrev pub compare_times : Sample → Sample → Ordering
compare_times one other = int_cmp one.time other.time

abbrev pub has_lesser_time : Sample → Sample → Bool
has_lesser_time one other = is_lt (int_cmp one.time other.time)

abbrev pub has_same_time : Sample → Sample → Bool
has_same_time one other = is_eq (int_cmp one.time other.time)

-- the first pattern at each time, in the order of the times
unfoldable pub first_samples : List Sample → List Sample
first_samples samples = dedup has_same_time (in_order has_lesser_time samples)
