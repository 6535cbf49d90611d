-- When the first entry of each seat was made.
use Rattle.std.proofs.Common.{◌≡◌, inl, inr, ℕ, true, false, cond, List, [], ◌∷◌, ◌++◌, Some, refl, sym, ◌∙◌, ap, subst}
use Rattle.std.specs.Prelude.{is_some}
use Rattle.std.specs.BTreeMap.{get}
use Rattle.std.specs.Ordering.{is_eq, nat_cmp}
use Rattle.std.proofs.lemmas.Bool.{cases_Bool}
use Rattle.std.specs.Cmp.{unsigned_ties}
use Rattle.world_core.specs.declared.entry.Entry.{Entry}
use Rattle.world_core.specs.Journals.{of_seat}
use Rattle.breach_finding.specs.Tables.{Numbers}
use Rattle.breach_finding.proofs.Compactors.{moment_of_first}
use Rattle.breach_finding.proofs.SeatTables.{num_itself}
use Rattle.breach_finding.proofs.WalkSteps.{other_more, seat_more}
use Rattle.base.proofs.Bools.{same-from_is_eq}

-- what follows the first entry does not change it
first_stays : (own : List Entry) (e : Entry) → is_some (moment_of_first own) ≡ true → moment_of_first (own ++ e ∷ []) ≡ moment_of_first own
first_stays [] e some = cc (some)
first_stays (x ∷ own) e some = refl

first_is : (own : List Entry) (e : Entry) → is_some (moment_of_first own) ≡ false → moment_of_first (own ++ e ∷ []) ≡ Some e.moment.ms
first_is [] e none = refl
first_is (x ∷ own) e none = cc (none)

module _ (front : List Entry) (e : Entry) where
  -- at another seat nothing changes
  elsewhere : (seat : ℕ) → is_eq (nat_cmp e.seat seat) ≡ false → moment_of_first (of_seat seat (front ++ e ∷ [])) ≡ moment_of_first (of_seat seat front)
  elsewhere seat other = ap moment_of_first (other_more front e seat (unsigned_ties e.seat seat ∙ other))

  module _ (old : Numbers) (known : (seat : ℕ) → get nat_cmp old seat ≡ moment_of_first (of_seat seat front)) where
    -- the seat has a first entry already
    pub first_kept : is_some (get nat_cmp old e.seat) ≡ true → (seat : ℕ) → get nat_cmp old seat ≡ moment_of_first (of_seat seat (front ++ e ∷ []))
    first_kept some seat = elim (cases_Bool (is_eq (nat_cmp e.seat seat))) [
      | inl same ↦ subst (λ (n : ℕ). get nat_cmp old n ≡ moment_of_first (of_seat n (front ++ e ∷ []))) (same-from_is_eq e.seat seat same)
          (known e.seat ∙ sym (ap moment_of_first (seat_more front e) ∙ first_stays (of_seat e.seat front) e (sym (ap is_some (known e.seat)) ∙ some)))
      | inr other ↦ known seat ∙ sym (elsewhere seat other)
    ]

    -- this is its first entry
    pub first_added : (new : Numbers) → is_some (get nat_cmp old e.seat) ≡ false → ((q : ℕ) → get nat_cmp new q ≡ cond (is_eq (nat_cmp e.seat q)) (Some e.moment.ms) (get nat_cmp old q))
        → (seat : ℕ) → get nat_cmp new seat ≡ moment_of_first (of_seat seat (front ++ e ∷ []))
    first_added new none updates seat = elim (cases_Bool (is_eq (nat_cmp e.seat seat))) [
      | inl same ↦ subst (λ (n : ℕ). get nat_cmp new n ≡ moment_of_first (of_seat n (front ++ e ∷ []))) (same-from_is_eq e.seat seat same)
          (updates e.seat ∙ ap (λ b. cond b (Some e.moment.ms) (get nat_cmp old e.seat)) (num_itself e.seat e.seat refl)
          ∙ sym (ap moment_of_first (seat_more front e) ∙ first_is (of_seat e.seat front) e (sym (ap is_some (known e.seat)) ∙ none)))
      | inr other ↦ updates seat ∙ ap (λ b. cond b (Some e.moment.ms) (get nat_cmp old seat)) other ∙ known seat ∙ sym (elsewhere seat other)
    ]
