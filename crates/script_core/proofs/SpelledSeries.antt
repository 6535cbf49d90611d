-- A series at its place among those of a block.
use Rattle.std.proofs.Common.{◌≡◌, Bool, false, ◌||◌, List, [], ◌∷◌, ◌++◌, refl, ap, ◌∙◌}
use Rattle.std.specs.List.{All, AllByRecursion}
use Rattle.std.specs.List.Sorted.{IsStrictlySortedBy}
use Rattle.std.specs.Ordering.{is_eq, match_ordering, ordering_reverse}
use Rattle.std.specs.declared.cmp.Ordering.{Ordering}
use Rattle.std.specs.declared.cmp.Ordering.TheVariants.{Less, Equal, Greater}
use Rattle.std.proofs.lemmas.Bool.{or_parts}
use Rattle.std.proofs.lemmas.List.Elements.{All-cons, All-head, All-tail}
use Rattle.label_sets.specs.Labels.{compare_sets}
use Rattle.label_sets.specs.declared.label.Label.{Label}
use Rattle.label_sets.specs.declared.series.Series.{Series}
use Rattle.script_core.specs.State.{has_series, insert_series}
use Rattle.script_core.proofs.LawfulParts.{labels_of, sets_total}

-- where a new series stands, and the list that comes of it
pub record Placed (series : List Series) (new : Series) (more : List Series) : Type 0 where
  pub lesser : List Series
  pub greater : List Series
  pub parted : series ≡ lesser ++ greater
  pub put : more ≡ lesser ++ new ∷ greater

place_by : (series : List Series) (new first : Series) (o : Ordering) → is_eq o ≡ false → Placed series new (insert_series series new) → Placed (first ∷ series) new (match_ordering o (new ∷ first ∷ series) (record first { samples = new.samples } ∷ series) (first ∷ insert_series series new))
place_by series new first Less other later = record { lesser = []; greater = first ∷ series; parted = refl; put = refl }
place_by series new first Equal other later = absurd cc
place_by series new first Greater other later =
    record { lesser = first ∷ later.lesser; greater = later.greater; parted = ap (λ s. first ∷ s) later.parted; put = ap (λ s. first ∷ s) later.put }

pub place_spelled : (series : List Series) (new : Series) → has_series series new.labels ≡ false → Placed series new (insert_series series new)
place_spelled [] new fresh = record { lesser = []; greater = []; parted = refl; put = refl }
place_spelled (first ∷ series) new fresh =
    let parts = or_parts (is_eq (compare_sets new.labels first.labels)) (has_series series new.labels) fresh in
    place_by series new first (compare_sets new.labels first.labels) parts.0 (place_spelled series new parts.1)

-- a fact on each label set holds of the one in the middle
at_middle : (P : List Label → Type 0) (lesser greater : List Series) (new : Series) → AllByRecursion P (labels_of (lesser ++ new ∷ greater)) → P new.labels
at_middle P [] greater new all = all.0
at_middle P (first ∷ lesser) greater new all = at_middle P lesser greater new all.1

above : (first new : Series) → compare_sets first.labels new.labels ≡ Less → compare_sets new.labels first.labels ≡ Greater
above first new below = sets_total.antisymm new.labels first.labels ∙ ap ordering_reverse below

abbrev placed_by : List Series → Series → Series → Ordering → List Series
placed_by series new first o =
    match_ordering o (new ∷ first ∷ series) (record first { samples = new.samples } ∷ series) (first ∷ insert_series series new)

pub place_inserted : (lesser greater : List Series) (new : Series) → IsStrictlySortedBy compare_sets (labels_of (lesser ++ new ∷ greater)) → insert_series (lesser ++ greater) new ≡ lesser ++ new ∷ greater
unfolding IsStrictlySortedBy
place_inserted [] [] new sorted = refl
place_inserted [] (first ∷ greater) new sorted =
    ap (placed_by greater new first) sorted.0.0
place_inserted (first ∷ lesser) greater new sorted =
    ap (placed_by (lesser ++ greater) new first) (above first new (at_middle (λ y. compare_sets first.labels y ≡ Less) lesser greater new sorted.0))
    ∙ ap (λ s. first ∷ s) (place_inserted lesser greater new sorted.1)

no_equal : (o : Ordering) (b : Bool) → o ≡ Less → b ≡ false → (is_eq o || b) ≡ false
no_equal Less b is h = h
no_equal Equal b is h = absurd cc
no_equal Greater b is h = absurd cc

no_equal_above : (o : Ordering) (b : Bool) → o ≡ Greater → b ≡ false → (is_eq o || b) ≡ false
no_equal_above Less b is h = absurd cc
no_equal_above Equal b is h = absurd cc
no_equal_above Greater b is h = h

fresh_above : (greater : List Series) (labels : List Label) → AllByRecursion (λ y. compare_sets labels y ≡ Less) (labels_of greater) → has_series greater labels ≡ false
fresh_above [] labels all = refl
fresh_above (first ∷ greater) labels all =
    no_equal (compare_sets labels first.labels) (has_series greater labels) all.0 (fresh_above greater labels all.1)

pub place_fresh : (lesser greater : List Series) (new : Series) → IsStrictlySortedBy compare_sets (labels_of (lesser ++ new ∷ greater)) → has_series (lesser ++ greater) new.labels ≡ false
unfolding IsStrictlySortedBy
place_fresh [] greater new sorted = fresh_above greater new.labels sorted.0
place_fresh (first ∷ lesser) greater new sorted =
    no_equal_above (compare_sets new.labels first.labels) (has_series (lesser ++ greater) new.labels) (above first new (at_middle (λ y. compare_sets first.labels y ≡ Less) lesser greater new sorted.0)) (place_fresh lesser greater new sorted.1)

-- a fact on each series, also on the new one
pub each_placed : (P : Series → Type 0) (lesser greater : List Series) (new : Series) → All P (lesser ++ greater) → P new → All P (lesser ++ new ∷ greater)
each_placed P [] greater new all one = All-cons P new greater one all
each_placed P (first ∷ lesser) greater new all one =
    All-cons P first (lesser ++ new ∷ greater) (All-head P first (lesser ++ greater) all) (each_placed P lesser greater new (All-tail P first (lesser ++ greater) all) one)
