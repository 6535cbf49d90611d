-- The answer of two replicas.
use Rattle.std.proofs.Common.{◌≡◌, true, false, List, [], ◌∷◌, Contains, refl, lit<}
use Rattle.std.specs.List.{IsDistinct, list_any}
use Rattle.std.specs.List.Sorted.{IsStrictlySortedBy}
use Rattle.std.proofs.lemmas.List.Elements.{All-from_recursion}
use Rattle.label_sets.specs.Finals.{is_among, without, final_of}
use Rattle.label_sets.specs.Labels.{value_of}
use Rattle.label_sets.specs.Ordered.{in_order, placed}
use Rattle.label_sets.specs.Triples.{Triple, has_same_key, triples_under}
use Rattle.matchers.specs.Selected.{is_selected, selected}
use Rattle.matchers.specs.Selectors.{accepts, is_accepted, is_match, value_or_empty}
use Rattle.lifecycle_core.specs.Guarantees.{IsExact}
use Rattle.lifecycle_core.specs.Held.{held, held_by}
use Rattle.lifecycle_core.specs.Holdings.{Use}
use Rattle.tests_worked.specs.TwoReplicas as two

-- what the blocks hold, one after the other
abbrev all : List Triple
all = two.shared ∷ two.of_one ∷ two.shared ∷ two.of_other ∷ []

abbrev answer : List Triple
answer = two.shared ∷ two.of_other ∷ two.of_one ∷ []

pub exact : (used : Use) → IsExact two.setting (two.answered used answer)
unfolding held held_by triples_under selected is_selected is_match accepts is_accepted value_or_empty value_of final_of without is_among in_order placed IsDistinct IsStrictlySortedBy
exact used = record {
  ascending = ((refl, (refl, tt)), ((refl, tt), (tt, tt)));
  one_to_one = record {
    once = ((refl, (refl, tt)), ((refl, tt), (tt, tt)));
    taken = All-from_recursion (Contains all) answer ((0, lit< tt, refl), ((3, lit< tt, refl), ((1, lit< tt, refl), tt)));
    complete = All-from_recursion (λ t. list_any (has_same_key t) answer ≡ true) all (refl, (refl, (refl, (refl, tt))));
  };
}

pub not_twice : (used : Use) → ¬ IsExact two.setting (two.answered used (two.shared ∷ answer))
unfolding IsDistinct
not_twice used e = let no : true ≡ false = (e.one_to_one.once.0).0 in cc (no)

pub not_short : (used : Use) → ¬ IsExact two.setting (two.answered used (two.shared ∷ two.of_one ∷ []))
unfolding held held_by triples_under selected is_selected is_match accepts is_accepted value_or_empty value_of final_of without is_among in_order placed
not_short used e = let no : false ≡ true = e.one_to_one.complete 3 two.shared (lit< tt) in cc (no)
