-- How many different label sets stand in a list.
use Rattle.std.proofs.Common.{◌≡◌, ℕ, ◌+◌, Bool, true, false, not, cond, ◌||◌, List, [], ◌∷◌, ◌++◌, length, refl, sym, ap, ◌∙◌, arith}
use Rattle.std.specs.Prelude.{if◌then◌else◌}
use Rattle.std.specs.List.{list_any}
use Rattle.std.specs.Ordering.{is_eq}
use Rattle.std.proofs.lemmas.List.Folds.{list_any-append}
use Rattle.label_sets.specs.Labels.{compare_sets}
use Rattle.label_sets.specs.declared.label.Label.{Label}
use Rattle.label_sets.proofs.LabelValues.{same_set}
use Rattle.vertical_merge.proofs.Orders.{set_itself}
use Rattle.report_lines.specs.Summed.{HasEach, each_once}
use Rattle.base.proofs.Bools.{Equal-from_is_eq, or_or_false}

abbrev is_same : List Label → List Label → Bool
is_same one other = is_eq (compare_sets one other)

same_by : (one other : List Label) (there back : Bool) → is_same one other ≡ there → is_same other one ≡ back → there ≡ back
same_by one other true true first second = refl
same_by one other false false first second = refl
same_by one other true false first second =
    let equal = same_set one other (Equal-from_is_eq (compare_sets one other) first) in
    let itself : is_same other one ≡ true = ap (λ (l : List Label). is_same other l) equal ∙ ap is_eq (set_itself other) in absurd cc
same_by one other false true first second =
    let equal = same_set other one (Equal-from_is_eq (compare_sets other one) second) in
    let itself : is_same one other ≡ true = ap (λ (l : List Label). is_same one l) equal ∙ ap is_eq (set_itself one) in absurd cc

-- it does not matter which is first
same_back : (one other : List Label) → is_same one other ≡ is_same other one
same_back one other = same_by one other (is_same one other) (is_same other one) refl refl

among_more : (set new : List Label) (sets : List (List Label)) → list_any (is_same set) (sets ++ new ∷ []) ≡ (list_any (is_same set) sets || is_same set new)
among_more set new sets =
    list_any-append (λ (other : List Label). is_eq (compare_sets set other)) sets (new ∷ []) ∙ or_or_false (list_any (is_same set) sets) (is_same set new)

-- a set more at the end, by whether it is the first, whether the first comes again, and whether the new one does
step : (first : List Label) (once more : List (List Label)) (again same seen : Bool) → (same ≡ true → again ≡ seen) → length more ≡ length once + (if seen then 0 else 1) → length (if again || same then more else first ∷ more) ≡ length (if again then once else first ∷ once) + (if same || seen then 0 else 1)
step first once more true true true equal sizes = sizes
step first once more true true false equal sizes = absurd (let bad : true ≡ false = equal refl in cc)
step first once more true false true equal sizes = sizes
step first once more true false false equal sizes = sizes
step first once more false true true equal sizes = absurd (let bad : false ≡ true = equal refl in cc)
step first once more false true false equal sizes = omega (arith, sizes)
step first once more false false true equal sizes = omega (arith, sizes)
step first once more false false false equal sizes = omega (arith, sizes)

once_more : (sets : List (List Label)) (new : List Label) → length (each_once (sets ++ new ∷ [])) ≡ length (each_once sets) + (if list_any (is_same new) sets then 0 else 1)
unfolding each_once
once_more [] new = refl
once_more (first ∷ sets) new =
    let once = each_once sets in
    let more = each_once (sets ++ new ∷ []) in
    ap (λ (b : Bool). length (if b then more else first ∷ more)) (among_more first new sets)
    ∙ step first once more (list_any (is_same first) sets) (is_same first new) (list_any (is_same new) sets) (λ is. ap (λ (s : List Label). list_any (is_same s) sets) (same_set first new (Equal-from_is_eq (compare_sets first new) is))) (once_more sets new)
    ∙ ap (λ (b : Bool). length (if list_any (is_same first) sets then once else first ∷ once) + (if b || list_any (is_same new) sets then 0 else 1)) (same_back first new)

count_by : (seen added : Bool) (new old once more : ℕ) → added ≡ not seen → new ≡ old + (if added then 1 else 0) → old ≡ once → more ≡ once + (if seen then 0 else 1) → new ≡ more
count_by true true new old once more is news olds mores = absurd cc
count_by true false new old once more is news olds mores = omega (arith, news, olds, mores)
count_by false true new old once more is news olds mores = omega (arith, news, olds, mores)
count_by false false new old once more is news olds mores = absurd cc

or_by : (a b : Bool) → cond a true b ≡ (b || a)
or_by true true = refl
or_by true false = refl
or_by false true = refl
or_by false false = refl

pub none_each : (keys : List (List Label)) → keys ≡ [] → HasEach keys []
unfolding each_once
none_each keys none =
    record { count = ap (length {A = List Label}) none; same = λ set. ap (list_any (is_same set)) none }

-- a set with one more
pub more_each : (old new sets : List (List Label)) (set : List Label) (added : Bool) → HasEach old sets → added ≡ not (list_any (is_same set) old) → length new ≡ length old + (if added then 1 else 0) → ((q : List Label) → list_any (is_same q) new ≡ cond (is_same set q) true (list_any (is_same q) old)) → HasEach new (sets ++ set ∷ [])
more_each old new sets set added has is_new size has_it = record {
  count = count_by (list_any (is_same set) sets) added (length new) (length old) (length (each_once sets)) (length (each_once (sets ++ set ∷ []))) (is_new ∙ ap not (has.same set)) size has.count (once_more sets set);
  same = λ q.
      has_it q ∙ ap (cond (is_same set q) true) (has.same q) ∙ or_by (is_same set q) (list_any (is_same q) sets) ∙ ap (λ b. list_any (is_same q) sets || b) (same_back set q)
      ∙ sym (among_more q set sets);
}
