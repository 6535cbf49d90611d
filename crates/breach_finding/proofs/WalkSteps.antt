-- A walk goes on with an entry that is kept.
use Rattle.std.proofs.Common.{◌≡◌, inl, inr, ℕ, ◌≤◌, ◌==◌, false, cond, List, [], ◌∷◌, ◌++◌, Option, refl, sym, ◌∙◌, ap, subst, append-nil}
use Rattle.std.specs.BTreeMap.{get}
use Rattle.std.specs.Ordering.{is_eq, nat_cmp}
use Rattle.std.proofs.lemmas.Bool.{cases_Bool, eqb-true, eq-eqb}
use Rattle.std.proofs.lemmas.List.Elements.{filter-append}
use Rattle.std.specs.Cmp.{unsigned_ties}
use Rattle.base.proofs.Lists.{filter_hit, filter_miss}
use Rattle.base.proofs.Bools.{same-from_is_eq}
use Rattle.world_core.specs.Journals.{Each, of_seat}
use Rattle.world_core.specs.declared.entry.Entry.{Entry}
use Rattle.lifecycle_core.specs.Breaches.{IsKept, IsSeatOf}
use Rattle.lifecycle_core.specs.Setting.{Setting}
use Rattle.lifecycle_core.specs.Tasks.{sync_rules}
use Rattle.breach_finding.specs.Judging.{IsWatchTurn}
use Rattle.breach_finding.specs.Seats.{IsToldOf, IsWatched}
use Rattle.breach_finding.specs.Walks.{UnderWays}
use Rattle.breach_finding.specs.Watching.{IsWaiting}
use Rattle.breach_finding.specs.declared.watching.Told.{Told}
use Rattle.lifecycle_core.proofs.views.OneOpening.{AllList}
use Rattle.breach_finding.proofs.SeatTables.{num_itself}
use Rattle.breach_finding.proofs.SeatTurns.{last_split, seat_step}
use Rattle.breach_finding.proofs.Waits.{turn_waits}

-- ---- a seat's entries with one entry more

pub seat_more : (before : List Entry) (e : Entry) → of_seat e.seat (before ++ e ∷ []) ≡ of_seat e.seat before ++ e ∷ []
seat_more before e = filter-append (λ (x : Entry). x.seat == e.seat) before (e ∷ []) ∙ ap (λ (es : List Entry). of_seat e.seat before ++ es) (filter_hit (λ (x : Entry). x.seat == e.seat) e [] (eq-eqb e.seat e.seat refl))

pub other_more : (before : List Entry) (e : Entry) (seat : ℕ) → (e.seat == seat) ≡ false → of_seat seat (before ++ e ∷ []) ≡ of_seat seat before
other_more before e seat other =
    filter-append (λ (x : Entry). x.seat == seat) before (e ∷ []) ∙ ap (λ (es : List Entry). of_seat seat before ++ es) (filter_miss (λ (x : Entry). x.seat == seat) e [] other) ∙ append-nil (of_seat seat before)

-- ---- what is kept

pub kept_more : (setting : Setting) (journal before : List Entry) (e : Entry) → Each (IsKept setting journal) before → IsKept setting journal before e → Each (IsKept setting journal) (before ++ e ∷ [])
kept_more setting journal before e each kept = λ front back x is. by_back front back x is
  where
    by_made : (front : List Entry) (x : Entry) (made back : List Entry) → x ∷ back ≡ made ++ e ∷ [] → before ≡ front ++ made → IsKept setting journal front x
    by_made front x [] back is own =
        let same : x ≡ e = cc (is) in
        subst (λ (z : Entry). IsKept setting journal front z) (sym same) (subst (λ (es : List Entry). IsKept setting journal es e) (own ∙ append-nil front) kept)
    by_made front x (y ∷ made) back is own =
        let same : x ≡ y = cc (is) in
        subst (λ (z : Entry). IsKept setting journal front z) (sym same) (each front made y own)

    by_back : (front back : List Entry) (x : Entry) → before ++ e ∷ [] ≡ front ++ x ∷ back → IsKept setting journal front x
    by_back front back x is =
        let cut = last_split front (x ∷ back) before e is (λ none. cc (none)) in
        by_made front x cut.0 back cut.1 cut.2

-- ---- the seats

module _ (setting : Setting) (before : List Entry) (e : Entry) (old new : UnderWays) where
  abbrev pub AreWatched : List Entry → UnderWays → Type 0
  AreWatched entries unders = (gateway seat : ℕ) → IsSeatOf setting gateway seat → IsWatched (sync_rules setting gateway) (of_seat seat entries) (get nat_cmp unders seat)

  -- at a seat that is no gateway's nothing changes
  pub watched_past : ((gateway : ℕ) → IsSeatOf setting gateway e.seat → ⊥) → AreWatched before old → AreWatched (before ++ e ∷ []) old
  watched_past none watched gateway seat sits = elim (cases_Bool (e.seat == seat)) [
    | inl same ↦ absurd (none gateway (subst (IsSeatOf setting gateway) (sym (eqb-true e.seat seat same)) sits))
    | inr other ↦ subst (λ (es : List Entry). IsWatched (sync_rules setting gateway) es (get nat_cmp old seat)) (sym (other_more before e seat other)) (watched gateway seat sits)
  ]

  module _ (gateway : ℕ) (sits : IsSeatOf setting gateway e.seat) (one : (other : ℕ) → IsSeatOf setting other e.seat → other ≡ gateway) (told : Option Told) (w : IsWatchTurn (sync_rules setting gateway) old new e told)
      (low : 1 ≤ setting.script.rules.page_limit) (named : AllList (of_seat e.seat before)) (watched : AreWatched before old) where
    stepped : IsWatched (sync_rules setting gateway) (of_seat e.seat before ++ e ∷ []) w.turn.under × IsToldOf (sync_rules setting gateway) (of_seat e.seat before) e w.turn.told
    stepped = seat_step (sync_rules setting gateway) low (of_seat e.seat before) e named (get nat_cmp old e.seat) w.turn (watched gateway e.seat sits) w.is

    pub told_on : IsToldOf (sync_rules setting gateway) (of_seat e.seat before) e told
    told_on = subst (IsToldOf (sync_rules setting gateway) (of_seat e.seat before) e) w.tells stepped.1

    here : get nat_cmp new e.seat ≡ w.turn.under
    here = w.seats e.seat ∙ ap (λ b. cond b w.turn.under (get nat_cmp old e.seat)) (num_itself e.seat e.seat refl)

    at_own : (other : ℕ) → IsSeatOf setting other e.seat → IsWatched (sync_rules setting other) (of_seat e.seat (before ++ e ∷ [])) (get nat_cmp new e.seat)
    at_own other sits' =
        subst (λ (g : ℕ). IsWatched (sync_rules setting g) (of_seat e.seat (before ++ e ∷ [])) (get nat_cmp new e.seat)) (sym (one other sits'))
        (subst (λ (es : List Entry). IsWatched (sync_rules setting gateway) es (get nat_cmp new e.seat)) (sym (seat_more before e))
        (subst (IsWatched (sync_rules setting gateway) (of_seat e.seat before ++ e ∷ [])) (sym here) stepped.0))

    pub watched_on : AreWatched (before ++ e ∷ []) new
    watched_on other seat sits' = elim (cases_Bool (is_eq (nat_cmp e.seat seat))) [
      | inl same ↦ (let own : e.seat ≡ seat = same-from_is_eq e.seat seat same in
          subst (λ (n : ℕ). IsWatched (sync_rules setting other) (of_seat n (before ++ e ∷ [])) (get nat_cmp new n)) own (at_own other (subst (IsSeatOf setting other) (sym own) sits')))
      | inr differs ↦ (let past : get nat_cmp new seat ≡ get nat_cmp old seat = w.seats seat ∙ ap (λ b. cond b w.turn.under (get nat_cmp old seat)) differs in
          subst (λ (es : List Entry). IsWatched (sync_rules setting other) es (get nat_cmp new seat)) (sym (other_more before e seat (unsigned_ties e.seat seat ∙ differs)))
          (subst (IsWatched (sync_rules setting other) (of_seat seat before)) (sym past) (watched other seat sits')))
    ]

    pub waits_on : ((seat : ℕ) → IsWaiting (get nat_cmp old seat)) → (seat : ℕ) → IsWaiting (get nat_cmp new seat)
    waits_on waits = turn_waits (sync_rules setting gateway) old new e told w waits
