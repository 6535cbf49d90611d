-- The views of gateways go on with an entry.
use Rattle.std.proofs.Common.{◌≡◌, inl, inr, ℕ, ◌+◌, ◌≤◌, true, false, List, [], ◌∷◌, ◌++◌, Contains, Option, Some, None, refl, sym, ◌∙◌, ap, subst, append_assoc}
use Rattle.std.specs.Ordering.{is_eq, nat_cmp}
use Rattle.std.proofs.lemmas.Bool.{cases_Bool}
use Rattle.std.proofs.lemmas.List.Elements.{All-contains}
use Rattle.world_core.specs.declared.entry.Entry.{Entry}
use Rattle.meta_fetcher.specs.Syncs.{SyncRun}
use Rattle.meta_fetcher.specs.declared.sync.SyncEnd.{SyncEnd}
use Rattle.meta_fetcher.specs.declared.sync.SyncEnd.TheVariants as ended
use Rattle.meta_fetcher.specs.declared.view.View.{View}
use Rattle.script_core.specs.Lawful.{IsLawfulScript}
use Rattle.lifecycle_core.specs.Breaches.{IsSeatOf, IsSyncIn}
use Rattle.world_core.specs.Journals.{of_seat}
use Rattle.lifecycle_core.specs.Setting.{Setting}
use Rattle.lifecycle_core.specs.Tasks.{sync_rules}
use Rattle.lifecycle_core.proofs.journals.Positions.{stands_in}
use Rattle.lifecycle_core.proofs.journals.Told.{Rises}
use Rattle.lifecycle_core.proofs.phases.OneSeat.{one_gateway}
use Rattle.lifecycle_core.proofs.phases.TasksMade.{all_of_seat}
use Rattle.lifecycle_core.proofs.views.SyncEnds.{sync_tells}
use Rattle.breach_finding.specs.Judging.{given_as, given_by}
use Rattle.breach_finding.specs.Seats.{IsCome, IsOfSync, IsToldOf}
use Rattle.breach_finding.specs.Tables.{gateway_or}
use Rattle.breach_finding.specs.Views.{IsLastView}
use Rattle.breach_finding.specs.Watching.{came_of}
use Rattle.breach_finding.specs.declared.watching.Came.{Came}
use Rattle.breach_finding.specs.declared.watching.Came.TheVariants as came
use Rattle.breach_finding.specs.declared.watching.Told.{Told}
use Rattle.lifecycle_core.proofs.views.OneOpening.{AllList}
use Rattle.breach_finding.proofs.SeatTables.{num_itself}
use Rattle.breach_finding.proofs.SeatTurns.{last_split}
use Rattle.breach_finding.proofs.SyncTimes.{ends_here, is_sync}
use Rattle.breach_finding.proofs.ViewTimes.{NoViewEnds, view_given, view_stays}
use Rattle.base.proofs.Bools.{same-from_is_eq}

-- who makes the last entry of a gateway's sync sits at one of its seats
pub sits_last : (setting : Setting) (journal : List Entry) (e : Entry) (gateway : ℕ) (entries made : List Entry) (end : Option SyncEnd) → IsSyncIn setting journal gateway entries end → entries ≡ made ++ e ∷ [] → IsSeatOf setting gateway e.seat
sits_last setting journal e gateway entries made end s ends =
    let around : of_seat s.seat journal ≡ (s.sync.before ++ made) ++ e ∷ s.sync.after =
    s.sync.parts ∙ ap (λ (es : List Entry). (s.sync.before ++ es) ++ s.sync.after) ends ∙ ap (λ (es : List Entry). es ++ s.sync.after) (sym (append_assoc s.sync.before made (e ∷ []))) ∙ append_assoc (s.sync.before ++ made) (e ∷ []) s.sync.after in
    let seat : e.seat ≡ s.seat = All-contains (λ (x : Entry). x.seat ≡ s.seat) (of_seat s.seat journal) e (all_of_seat s.seat journal) (subst (λ (es : List Entry). Contains es e) (sym around) (stands_in (s.sync.before ++ made) s.sync.after e)) in
    subst (IsSeatOf setting gateway) (sym seat) s.sits

module _ (setting : Setting) (lawful : IsLawfulScript setting.script) (journal : List Entry) (rises : Rises journal) (e : Entry) (among : Contains journal e) where
  -- at a seat that is no gateway's no view is given
  pub views_past : ((gateway : ℕ) → IsSeatOf setting gateway e.seat → ⊥) → (gateway : ℕ) (o : Option ℕ) → IsLastView setting journal gateway e.seq o → IsLastView setting journal gateway (e.seq + 1) o
  views_past none gateway o is =
      view_stays setting lawful journal rises e among gateway (λ entries front view s ends. none gateway (sits_last setting journal e gateway entries front (Some (ended.View view)) s ends)) o is

module _ (setting : Setting) (lawful : IsLawfulScript setting.script) (journal before after : List Entry) (e : Entry) (parts : journal ≡ before ++ e ∷ after) (rises : Rises journal) (gateway : ℕ) (sits : IsSeatOf setting gateway e.seat)
    (low : 1 ≤ setting.script.rules.page_limit) (named : AllList (of_seat e.seat before)) where
  among : Contains journal e
  among = subst (λ (es : List Entry). Contains es e) (sym parts) (stands_in before after e)

  abbrev Own : Option Told → Type 0
  Own told = IsToldOf (sync_rules setting gateway) (of_seat e.seat before) e told

  -- another gateway's view stays
  other_stays : (other : ℕ) → (other ≡ gateway → ⊥) → (o : Option ℕ) → IsLastView setting journal other e.seq o → IsLastView setting journal other (e.seq + 1) o
  other_stays other apart o is =
      view_stays setting lawful journal rises e among other
      (λ entries front view s ends. apart (one_gateway setting lawful gateway other e.seat sits (sits_last setting journal e other entries front (Some (ended.View view)) s ends))) o is

  no_view_at : (rest : List Entry) (first : Entry) (end : Option SyncEnd) (how : Came) (begin : ℕ) → given_as how begin ≡ None → IsCome (sync_rules setting gateway) (first ∷ rest) end how → SyncRun (sync_rules setting gateway) (first ∷ rest) end → (view : View) → SyncRun (sync_rules setting gateway) (first ∷ rest) (Some (ended.View view)) → ⊥
  no_view_at rest first None how begin none come run view also = come.1 (ended.View view) also
  no_view_at rest first (Some end) how begin none come run view also =
      let same : end ≡ ended.View view = sync_tells (sync_rules setting gateway) (first ∷ rest) end (ended.View view) run also in
      let how_is : how ≡ came.View = come ∙ ap came_of same in
      let some : given_as how begin ≡ Some begin = ap (λ (c : Came). given_as c begin) how_is in
      cc (some, none)

  none_given : (told : Option Told) → Own told → given_by told ≡ None → NoViewEnds setting lawful journal rises e among gateway
  none_given None none given entries front view s ends =
      let is = ends_here setting lawful journal before after e parts rises gateway sits gateway entries front (Some (ended.View view)) s ends in
      none is.begins front (Some (ended.View view)) is.is is.run
  none_given (Some told) t given entries front view s ends =
      let is = ends_here setting lawful journal before after e parts rises gateway sits gateway entries front (Some (ended.View view)) s ends in
      let own = t.only is.begins front (Some (ended.View view)) is.is is.run in
      no_view_at t.others t.first t.end told.came told.begin given t.come t.run view (subst (λ (es : List Entry). SyncRun (sync_rules setting gateway) es (Some (ended.View view))) own is.run)

  given_how : (how : Came) (b begin : ℕ) → given_as how b ≡ Some begin → (how ≡ came.View) × (b ≡ begin)
  given_how came.View b begin is = (refl, cc (is))
  given_how came.GoesOn b begin is = cc (is)
  given_how came.Nothing b begin is = cc (is)

  end_view : (entries : List Entry) (end : Option SyncEnd) (how : Came) → IsCome (sync_rules setting gateway) entries end how → how ≡ came.View → (view : View) × (end ≡ Some (ended.View view))
  end_view entries None how come is = cc (is, come.0)
  end_view entries (Some (ended.View view)) how come is = (view, refl)
  end_view entries (Some (ended.Fault number)) how come is = cc (is, come)
  end_view entries (Some (ended.Damaged number)) how come is = cc (is, come)
  end_view entries (Some ended.TooMany) how come is = cc (is, come)

  never_none : {A : Type 0} (o : Option A) (x : A) → o ≡ Some x → o ≡ None → ⊥
  never_none o x some none = cc (some, none)

  view_came : (begin : ℕ) (how : Came) (t : IsOfSync (sync_rules setting gateway) (of_seat e.seat before) e begin how) (view : View) → t.end ≡ Some (ended.View view) → IsLastView setting journal gateway (e.seq + 1) (Some t.first.moment.ms)
  view_came begin how t view same =
      let cut = last_split t.front (t.first ∷ t.others) (of_seat e.seat before) e t.parts (λ none. cc (none)) in
      let s : IsSyncIn setting journal gateway (t.first ∷ t.others) t.end = is_sync setting lawful journal before after e parts rises gateway sits low named begin how t (λ none. absurd (never_none t.end (ended.View view) same none)) in
      view_given setting lawful journal rises e among gateway t.first t.others cut.0 view
      (subst (λ (o : Option SyncEnd). IsSyncIn setting journal gateway (t.first ∷ t.others) o) same s) cut.1

  given_at : (told : Told) (begin : ℕ) (t : IsOfSync (sync_rules setting gateway) (of_seat e.seat before) e told.begin told.came) → given_as told.came told.begin ≡ Some begin → IsLastView setting journal gateway (e.seq + 1) (Some begin)
  given_at told begin t given =
      let how = given_how told.came told.begin begin given in
      let view = end_view (t.first ∷ t.others) t.end told.came t.come how.0 in
      subst (λ (b : ℕ). IsLastView setting journal gateway (e.seq + 1) (Some b)) (t.begun ∙ how.1) (view_came told.begin told.came t view.0 view.1)

  given_some : (told : Option Told) → Own told → (begin : ℕ) → given_by told ≡ Some begin → IsLastView setting journal gateway (e.seq + 1) (Some begin)
  given_some None own begin is = absurd (never_none (Some begin) begin refl (sym is))
  given_some (Some told) t begin is = given_at told begin t is

  stays_so : (told : Option Told) → Own told → given_by told ≡ None → (was : Option ℕ) → IsLastView setting journal gateway e.seq was → IsLastView setting journal gateway (e.seq + 1) was
  stays_so told own is was last = view_stays setting lawful journal rises e among gateway (none_given told own is) was last

  AtNext : Option ℕ → Type 0
  AtNext o = IsLastView setting journal gateway (e.seq + 1) o

  by_cases : (given was : Option ℕ) → (given ≡ None → AtNext was) → ((begin : ℕ) → given ≡ Some begin → AtNext (Some begin)) → AtNext (gateway_or given true was)
  by_cases None was stays gives = stays refl
  by_cases (Some begin) was stays gives = gives begin refl

  by_given : (told : Option Told) → Own told → (was : Option ℕ) → IsLastView setting journal gateway e.seq was → IsLastView setting journal gateway (e.seq + 1) (gateway_or (given_by told) true was)
  unfolding AtNext
  by_given told own was last = by_cases (given_by told) was (λ is. stays_so told own is was last) (λ begin is. given_some told own begin is)

  not_own : (given : Option ℕ) (was : Option ℕ) → gateway_or given false was ≡ was
  not_own None was = refl
  not_own (Some begin) was = refl

  -- each gateway has the view that the entry gave it, or the one that it had
  pub views_on : (told : Option Told) → Own told → (other : ℕ) (was : Option ℕ) → IsLastView setting journal other e.seq was → IsLastView setting journal other (e.seq + 1) (gateway_or (given_by told) (is_eq (nat_cmp gateway other)) was)
  views_on told own other was last = elim (cases_Bool (is_eq (nat_cmp gateway other))) [
    | inl same ↦ (let is : gateway ≡ other = same-from_is_eq gateway other same in
        subst (λ b. IsLastView setting journal other (e.seq + 1) (gateway_or (given_by told) b was)) (sym same)
        (subst (λ (g : ℕ). IsLastView setting journal g (e.seq + 1) (gateway_or (given_by told) true was)) is (by_given told own was (subst (λ (g : ℕ). IsLastView setting journal g e.seq was) (sym is) last))))
    | inr differs ↦
        subst (λ b. IsLastView setting journal other (e.seq + 1) (gateway_or (given_by told) b was)) (sym differs)
        (subst (IsLastView setting journal other (e.seq + 1)) (sym (not_own (given_by told) was))
        (other_stays other (λ same. cc (differs, num_itself gateway other (sym same))) was last))
  ]
