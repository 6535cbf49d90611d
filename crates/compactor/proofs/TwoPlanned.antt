-- A plan that is not empty has two blocks at least.
use Rattle.std.proofs.Common.{◌≡◌, ◌⊎◌, ◌≤◌, ◌==◌, Bool, true, false, nat_le, if◌then◌else◌, List, [], ◌∷◌, length, find, Option, Some, None, inl, inr, refl, sym, ap, subst, ◌∙◌, arith}
use Rattle.std.specs.Option.{option_map_or}
use Rattle.std.proofs.lemmas.Bool.{leb-true}
use Rattle.base.proofs.Lists.{find_passes, length-some, nil_not_cons}
use Rattle.base.proofs.Bools.{and_first}
use Rattle.block_meta.specs.declared.meta.Meta.{Meta}
use Rattle.group_planner.specs.Overlaps.{IsOverlapPlan}
use Rattle.group_planner.specs.Plans.{IsPlan, without_last}
use Rattle.group_planner.specs.Selections.{IsSelection, Candidate, is_wanted, last_begin}

two_selected : (members selected : List Meta) → IsSelection members selected → (selected ≡ []) ⊎ (2 ≤ length selected)
two_selected members selected is = by (find (is_wanted (last_begin members)) is.candidates) refl
  where
    by : (o : Option Candidate) → find (is_wanted (last_begin members)) is.candidates ≡ o → (selected ≡ []) ⊎ (2 ≤ length selected)
    by None e = inl (is.first ∙ ap (λ (o : Option Candidate). option_map_or (λ (c : Candidate). c.part) o []) e)
    by (Some c) e =
        let part : selected ≡ c.part = is.first ∙ ap (λ (o : Option Candidate). option_map_or (λ (c : Candidate). c.part) o []) e in
        let test : nat_le 2 (length c.part) ≡ true = and_first (nat_le 2 (length c.part)) _ (find_passes (is_wanted (last_begin members)) is.candidates c e) in
        inr (subst (λ (l : List Meta). 2 ≤ length l) (sym part) (leb-true 2 (length c.part) test))

two_overlap : (members overlap : List Meta) → IsOverlapPlan members overlap → (overlap ≡ []) ⊎ (2 ≤ length overlap)
two_overlap members [] is = inl refl
two_overlap members (first ∷ []) is = absurd (is.some refl)
two_overlap members (first ∷ second ∷ run) is = inr (omega arith)

two_planned : (plan overlap selected : List Meta) → plan ≡ (if length overlap == 0 then selected else overlap) → (overlap ≡ []) ⊎ (2 ≤ length overlap) → (selected ≡ []) ⊎ (2 ≤ length selected) → (plan ≡ []) ⊎ (2 ≤ length plan)
two_planned plan [] selected is few (inl none) = inl (is ∙ none)
two_planned plan [] selected is few (inr two) = inr (subst (λ (l : List Meta). 2 ≤ length l) (sym is) two)
two_planned plan (first ∷ run) selected is (inl none) other = absurd (cc (none))
two_planned plan (first ∷ run) selected is (inr two) other =
    let some : (length (first ∷ run) == 0) ≡ false = length-some (first ∷ run) (λ none. nil_not_cons first run (sym none)) in
    let same : plan ≡ first ∷ run = is ∙ ap (λ (b : Bool). if b then selected else (first ∷ run)) some in
    inr (subst (λ (l : List Meta). 2 ≤ length l) (sym same) two)

pub others_planned : (members : List Meta) (first : Meta) (others : List Meta) → IsPlan members (first ∷ others) → 1 ≤ length others
others_planned members first others is = by (two_planned (first ∷ others) is.overlap is.selected is.first (two_overlap members is.overlap is.is_overlap) (two_selected (without_last members) is.selected is.is_selection))
  where
    by : (◌≡◌ {A = List Meta} (first ∷ others) []) ⊎ (2 ≤ length (first ∷ others)) → 1 ≤ length others
    by (inl none) = absurd (cc (none))
    by (inr two) = omega (arith, two)
