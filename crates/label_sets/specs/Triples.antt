-- Samples with the label sets under which they stand, and one-to-one deduplication of them.
use Rattle.std.specs.Prelude.{◌≡◌, ℕ, ℤ, List, map, Bool, true, All, Contains}
use Rattle.std.specs.declared.cmp.Ordering.{Ordering}
use Rattle.std.specs.Ordering.{int_cmp, ordering_then, is_lt, is_eq}
use Rattle.std.specs.List.{flat_map, dedup, list_any, IsDistinct}
use Rattle.std.specs.List.Sorted.{IsStrictlySortedBy}
use Rattle.label_sets.specs.declared.label.Label.{Label}
use Rattle.label_sets.specs.declared.sample.Sample.{Sample}
use Rattle.label_sets.specs.declared.series.Series.{Series}
use Rattle.label_sets.specs.Labels.{compare_sets}
use Rattle.label_sets.specs.Ordered.{in_order}

-- A sample under a label set. The labels and the time are its key.
pub record Triple : Type 0 where
  pub labels : List Label
  pub time : ℤ
  pub pattern : ℕ

-- the order of keys: by labels and then by time
abbrev pub compare_keys : Triple → Triple → Ordering
compare_keys one other = ordering_then (compare_sets one.labels other.labels) (int_cmp one.time other.time)

abbrev pub has_lesser_key : Triple → Triple → Bool
has_lesser_key one other = is_lt (compare_keys one other)

abbrev pub has_same_key : Triple → Triple → Bool
has_same_key one other = is_eq (compare_keys one other)

-- samples under a label set, as triples
unfoldable pub triples_under : List Label → List Sample → List Triple
triples_under labels samples = map (λ s. record { labels = labels; time = s.time; pattern = s.pattern }) samples

-- the samples of all these series, in their order
unfoldable pub triples_of : List Series → List Triple
triples_of series = flat_map (λ s. triples_under s.labels s.samples) series

-- One-to-one deduplication: each key of the list stands once, no other key stands, and the pattern at a key is one that
-- the list has there.
pub record IsOneToOne (kept list : List Triple) : Type 0 where
  pub once : IsDistinct has_same_key kept
  pub taken : All (Contains list) kept
  pub complete : All (λ t. list_any (has_same_key t) kept ≡ true) list

-- One-to-one deduplication in the order of the keys: they strictly ascend.
pub record IsDeduplication (kept list : List Triple) : Type 0 where
  pub ascending : IsStrictlySortedBy compare_keys kept
  pub one_to_one : IsOneToOne kept list

-- The first pattern at each key, ascending by labels and then by time: the list in the order of its keys, and of the
-- triples with one key the one that stands first in the list.
unfoldable pub first_of : List Triple → List Triple
first_of list = dedup has_same_key (in_order has_lesser_key list)
