-- The first samples of two lists one after another are those of their first samples.
use Rattle.std.proofs.Common.{◌≡◌, ℕ, List, [], ◌∷◌, ◌++◌, length, take, drop, refl, sym, ap, ◌∙◌, subst, arith}
use Rattle.std.specs.List.{find}
use Rattle.std.specs.List.Sorted.{IsStrictlySortedBy}
use Rattle.std.proofs.lemmas.List.{take-append-drop}
use Rattle.std.proofs.lemmas.List.Concat.{flat_map-append}
use Rattle.std.proofs.lemmas.List.Folds.{find-append}
use Rattle.label_sets.specs.declared.sample.Sample.{Sample}
use Rattle.base.specs.Ordered.{in_order}
use Rattle.base.specs.Lists.{joined as all_of}
use Rattle.vertical_merge.specs.Joined.{compare_times, has_same_time, first_samples}
use Rattle.vertical_merge.proofs.Firsts.{own_class, find-firsts, ascending-firsts, same_found}
use Rattle.vertical_merge.proofs.Orders.{times_total}

pub ascends_first : (lent made xs : List Sample) → made ≡ first_samples xs → lent ≡ made → IsStrictlySortedBy compare_times lent
unfolding first_samples
ascends_first lent _ xs is same = subst (IsStrictlySortedBy compare_times) (sym (same ∙ is)) (ascending-firsts times_total xs)

find-first : (t : Sample) (xs : List Sample) → find (has_same_time t) (first_samples xs) ≡ find (has_same_time t) xs
unfolding first_samples
find-first t xs = find-firsts times_total _ (own_class times_total t) xs

find-joined : (t : Sample) (xs ys : List Sample) → find (has_same_time t) (first_samples xs ++ first_samples ys) ≡ find (has_same_time t) (xs ++ ys)
find-joined t xs ys = find-append (has_same_time t) (first_samples xs) _
    ∙ rw (find-first t xs, find-first t ys) (sym (find-append (has_same_time t) xs ys))

pub joined_firsts : (xs ys : List Sample) → first_samples (first_samples xs ++ first_samples ys) ≡ first_samples (xs ++ ys)
joined_firsts xs ys = same_found times_total _ _ (ascends_first _ _ _ refl refl) (ascends_first _ _ _ refl refl)
    (λ t. find-first t _ ∙ find-joined t xs ys ∙ sym (find-first t _))

pub parts_joined : (made front back lent samples xs ys : List Sample) (place : ℕ) → xs ≡ take place samples → ys ≡ drop place samples
    → front ≡ first_samples xs → back ≡ first_samples ys → lent ≡ back → made ≡ first_samples (front ++ lent) → made ≡ first_samples samples
parts_joined _ front _ _ samples _ _ place is_front is_back first second same is =
    is ∙ ap (λ zs. first_samples (front ++ zs)) (same ∙ second ∙ ap first_samples is_back)
    ∙ ap (λ zs. first_samples (zs ++ first_samples (drop place samples))) (first ∙ ap first_samples is_front)
    ∙ joined_firsts _ _ ∙ ap first_samples (take-append-drop _ _)

-- the same of parts
pub halves_joined : (made front lent first second : List Sample) (parts before behind : List (List Sample)) (place : ℕ) → before ≡ take place parts → behind ≡ drop place parts
    → first ≡ first_samples (all_of before) → second ≡ first_samples (all_of behind) → front ≡ first → lent ≡ second → made ≡ first_samples (front ++ lent) → made ≡ first_samples (all_of parts)
halves_joined _ _ lent _ _ parts _ _ place is_before is_behind is_first is_second same_front same_lent is =
    is ∙ ap (λ zs. first_samples (zs ++ lent)) (same_front ∙ is_first ∙ ap (λ ps. first_samples (all_of ps)) is_before)
    ∙ ap (λ zs. first_samples (first_samples (all_of (take place parts)) ++ zs)) (same_lent ∙ is_second ∙ ap (λ ps. first_samples (all_of ps)) is_behind)
    ∙ joined_firsts _ _
    ∙ ap first_samples (sym (flat_map-append (λ p. p) (take place parts) (drop place parts)) ∙ ap (λ ps. all_of ps) (take-append-drop place _))

-- no part has no first sample
pub none_first : (made : List Sample) (parts : List (List Sample)) → length parts ≡ 0 → made ≡ [] → made ≡ first_samples (all_of parts)
unfolding first_samples in_order
none_first _ [] e is = is
none_first _ (p ∷ ps) e is = absurd (omega arith)
