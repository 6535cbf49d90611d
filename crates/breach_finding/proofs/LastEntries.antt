-- Which entry of a seat is its last one.
use Rattle.base.proofs.Membership.{contains_first, contains_later}
use Rattle.base.proofs.Bools.{same-from_is_eq}
use Rattle.std.proofs.Common.{◌≡◌, ◌≢◌, inl, inr, ℕ, ◌<◌, ◌≤◌, ◌==◌, cond, List, [], ◌∷◌, ◌++◌, Contains, Option, Some, None, refl, sym, ◌∙◌, ap, subst, arith}
use Rattle.std.specs.Prelude.{option_map}
use Rattle.std.specs.BTreeMap.{get}
use Rattle.std.specs.List.{last_or}
use Rattle.std.specs.Ordering.{is_eq, nat_cmp}
use Rattle.std.proofs.lemmas.Bool.{cases_Bool, eq-eqb}
use Rattle.std.proofs.lemmas.List.Elements.{All-contains}
use Rattle.std.specs.Cmp.{unsigned_ties}
use Rattle.world_core.specs.declared.entry.Entry.{Entry}
use Rattle.world_core.specs.Journals.{of_seat}
use Rattle.lifecycle_core.proofs.journals.Positions.{filtered}
use Rattle.lifecycle_core.proofs.journals.Told.{Rises}
use Rattle.lifecycle_core.proofs.phases.TasksMade.{rises_filter, rises_right}
use Rattle.breach_finding.specs.Tables.{Numbers}
use Rattle.breach_finding.proofs.SeatTables.{num_itself}
use Rattle.breach_finding.proofs.WalkSteps.{other_more, seat_more}

last_added : (entries : List Entry) (e : Entry) (o : Option Entry) → last_or o (entries ++ e ∷ []) ≡ Some e
last_added [] e o = refl
last_added (x ∷ entries) e o = last_added entries e (Some x)

-- the number of the last of a seat's entries
abbrev pub number_of_last : List Entry → Option ℕ
number_of_last entries = option_map (λ (x : Entry). x.seq) (last_or None entries)

module _ (old new : Numbers) (front : List Entry) (e : Entry) (updates : (q : ℕ) → get nat_cmp new q ≡ cond (is_eq (nat_cmp e.seat q)) (Some e.seq) (get nat_cmp old q)) (known : (seat : ℕ) → get nat_cmp old seat ≡ number_of_last (of_seat seat front)) where
  own_last : get nat_cmp new e.seat ≡ number_of_last (of_seat e.seat (front ++ e ∷ []))
  own_last =
      updates e.seat ∙ ap (λ b. cond b (Some e.seq) (get nat_cmp old e.seat)) (num_itself e.seat e.seat refl)
      ∙ sym (ap number_of_last (seat_more front e) ∙ ap (option_map (λ (x : Entry). x.seq)) (last_added (of_seat e.seat front) e None))

  pub last_more : (seat : ℕ) → get nat_cmp new seat ≡ number_of_last (of_seat seat (front ++ e ∷ []))
  last_more seat = elim (cases_Bool (is_eq (nat_cmp e.seat seat))) [
    | inl same ↦ subst (λ (n : ℕ). get nat_cmp new n ≡ number_of_last (of_seat n (front ++ e ∷ []))) (same-from_is_eq e.seat seat same) own_last
    | inr other ↦
        updates seat ∙ ap (λ b. cond b (Some e.seq) (get nat_cmp old seat)) other ∙ known seat
        ∙ sym (ap number_of_last (other_more front e seat (unsigned_ties e.seat seat ∙ other)))
  ]

-- ---- whether an entry is the last

last_among : (x : Entry) (entries : List Entry) → (z : Entry) × (last_or (Some x) entries ≡ Some z) × Contains (x ∷ entries) z
last_among x [] = (x, refl, contains_first x [])
last_among x (y ∷ entries) = let own = last_among y entries in (own.0, own.1, contains_later x own.0 (y ∷ entries) own.2)

module _ (journal before after : List Entry) (e : Entry) (parts : journal ≡ before ++ e ∷ after) (rises : Rises journal) where
  split_at : of_seat e.seat journal ≡ of_seat e.seat before ++ e ∷ of_seat e.seat after
  split_at = ap (of_seat e.seat) parts ∙ filtered (λ (x : Entry). x.seat == e.seat) before after e (eq-eqb e.seat e.seat refl)

  last_behind : (own behind : List Entry) (o : Option Entry) → last_or o (own ++ e ∷ behind) ≡ last_or (Some e) behind
  last_behind [] behind o = refl
  last_behind (x ∷ own) behind o = last_behind own behind (Some x)

  own_number : number_of_last (of_seat e.seat journal) ≡ option_map (λ (x : Entry). x.seq) (last_or (Some e) (of_seat e.seat after))
  own_number = ap number_of_last split_at ∙ ap (option_map (λ (x : Entry). x.seq)) (last_behind (of_seat e.seat before) (of_seat e.seat after) None)

  behind_rises : Rises (e ∷ of_seat e.seat after)
  behind_rises = rises_right (of_seat e.seat before) (e ∷ of_seat e.seat after) (subst Rises split_at (rises_filter (λ (x : Entry). x.seat == e.seat) journal rises))

  is_last : (behind : List Entry) → Rises (e ∷ behind) → option_map (λ (x : Entry). x.seq) (last_or (Some e) behind) ≡ Some e.seq → behind ≡ []
  is_last [] up is = refl
  is_last (x ∷ behind) up is =
      let own = last_among x behind in
      let less = All-contains (λ (y : Entry). (e.seq < y.seq) × (e.moment.ms ≤ y.moment.ms)) (x ∷ behind) own.0 up.0 own.2 in
      let number : Some own.0.seq ≡ Some e.seq = sym (ap (option_map (λ (y : Entry). y.seq)) own.1) ∙ is in
      let same : own.0.seq ≡ e.seq = cc (number) in
      absurd (omega (arith, less.0, same))

  pub last_so : number_of_last (of_seat e.seat journal) ≡ Some e.seq → of_seat e.seat after ≡ []
  last_so is = is_last (of_seat e.seat after) behind_rises (sym own_number ∙ is)

  pub not_last : (number_of_last (of_seat e.seat journal) ≡ Some e.seq → ⊥) → of_seat e.seat after ≢ []
  not_last other none = other (own_number ∙ ap (λ (es : List Entry). option_map (λ (x : Entry). x.seq) (last_or (Some e) es)) none)
