-- What the rule of time on syncs refuses, by what is told of an entry.
use Rattle.std.proofs.Common.{◌≡◌, ◌≢◌, ℕ, ◌+◌, ◌≤◌, ◌==◌, Bool, true, false, List, [], ◌∷◌, ◌++◌, Contains, Option, Some, None, refl, sym, ◌∙◌, ap, subst, append_assoc}
use Rattle.std.proofs.lemmas.Bool.{eq-eqb}
use Rattle.std.proofs.lemmas.List.{append_cancel_left}
use Rattle.std.proofs.lemmas.List.Elements.{All-contains}
use Rattle.world_core.specs.declared.entry.Entry.{Entry}
use Rattle.meta_fetcher.specs.Syncs.{SyncRun}
use Rattle.meta_fetcher.specs.declared.rules.SyncRules.{SyncRules}
use Rattle.meta_fetcher.specs.declared.sync.SyncEnd.{SyncEnd}
use Rattle.meta_fetcher.specs.declared.sync.SyncEnd.TheVariants as ended
use Rattle.script_core.specs.Lawful.{IsLawfulScript}
use Rattle.lifecycle_core.specs.Breaches.{IsOver, IsSeatOf, IsSyncIn, Refuses, sync_time}
use Rattle.world_core.specs.Journals.{of_seat}
use Rattle.lifecycle_core.specs.Setting.{Setting}
use Rattle.lifecycle_core.specs.SyncsAndCalls.{IsSyncBy}
use Rattle.lifecycle_core.specs.Tasks.{sync_rules}
use Rattle.lifecycle_core.proofs.journals.Positions.{filtered, stands_in}
use Rattle.lifecycle_core.proofs.journals.Told.{Rises}
use Rattle.lifecycle_core.proofs.phases.OneSeat.{one_gateway}
use Rattle.lifecycle_core.proofs.phases.TasksMade.{all_of_seat, rises_filter}
use Rattle.breach_finding.specs.Asked.{IsSyncAnswer, is_whole}
use Rattle.breach_finding.specs.Seats.{IsCome, IsOfSync, IsToldOf}
use Rattle.breach_finding.specs.Told.{IsTold}
use Rattle.breach_finding.specs.Watching.{came_of}
use Rattle.breach_finding.specs.declared.watching.Came.{Came}
use Rattle.breach_finding.specs.declared.watching.Came.TheVariants.{GoesOn, Nothing, View}
use Rattle.breach_finding.specs.declared.watching.Told.{Told}
use Rattle.lifecycle_core.proofs.views.Alone.{alone_here}
use Rattle.lifecycle_core.proofs.views.OneOpening.{AllList}
use Rattle.lifecycle_core.proofs.deeds.Orders.{one_place}
use Rattle.breach_finding.proofs.SeatTurns.{last_split}

left_list : (a b : List Entry) → AllList (a ++ b) → AllList a
left_list [] b all = tt
left_list (x ∷ a) b all = (all.0, left_list a b all.1)

whole_or_not : (rules : SyncRules) (entries : List Entry) (end : Option SyncEnd) (how : Came) (last : Bool) → IsCome rules entries end how → is_whole how last ≡ true → end ≡ None → last ≡ true
whole_or_not rules entries None how last come whole none = sym (ap (λ (c : Came). is_whole c last) come.0) ∙ whole
whole_or_not rules entries (Some end) how last come whole none = cc (none)

open_came : (how : Came) (last : Bool) → is_whole how last ≡ false → (how ≡ GoesOn) × (last ≡ false)
open_came GoesOn last is = (refl, is)
open_came View last is = cc (is)
open_came Nothing last is = cc (is)

pub never_open : (end : SyncEnd) → GoesOn ≡ came_of end → ⊥
never_open (ended.View view) is = cc (is)
never_open (ended.Fault entry) is = cc (is)
never_open (ended.Damaged entry) is = cc (is)
never_open ended.TooMany is = cc (is)

module _ (setting : Setting) (lawful : IsLawfulScript setting.script) (journal before after : List Entry) (e : Entry) (parts : journal ≡ before ++ e ∷ after) (rises : Rises journal) (gateway : ℕ) (sits : IsSeatOf setting gateway e.seat) where
  abbrev own : List Entry
  own = of_seat e.seat before

  abbrev behind : List Entry
  behind = of_seat e.seat after

  abbrev rules : SyncRules
  rules = sync_rules setting gateway

  here : of_seat e.seat journal ≡ own ++ e ∷ behind
  here = ap (of_seat e.seat) parts ∙ filtered (λ (x : Entry). x.seat == e.seat) before after e (eq-eqb e.seat e.seat refl)

  seat_of : (seat : ℕ) (front back : List Entry) → of_seat seat journal ≡ front ++ e ∷ back → e.seat ≡ seat
  seat_of seat front back is = All-contains (λ (x : Entry). x.seat ≡ seat) (of_seat seat journal) e (all_of_seat seat journal) (subst (λ (es : List Entry). Contains es e) (sym is) (stands_in front back e))

  -- a sync of the journal whose last entry is this one
  pub record EndsHere (made : List Entry) (end : Option SyncEnd) : Type 0 where
    pub begins : List Entry
    pub is : own ≡ begins ++ made
    pub run : SyncRun rules (made ++ e ∷ []) end
    pub whole : end ≡ None → behind ≡ []

  pub ends_here : (other : ℕ) (entries made : List Entry) (end : Option SyncEnd) → IsSyncIn setting journal other entries end → entries ≡ made ++ e ∷ [] → EndsHere made end
  ends_here other entries made end s ends =
      let around : of_seat s.seat journal ≡ (s.sync.before ++ made) ++ e ∷ s.sync.after =
      s.sync.parts ∙ ap (λ (es : List Entry). (s.sync.before ++ es) ++ s.sync.after) ends ∙ ap (λ (es : List Entry). es ++ s.sync.after) (sym (append_assoc s.sync.before made (e ∷ []))) ∙ append_assoc (s.sync.before ++ made) (e ∷ []) s.sync.after in
      let seat : e.seat ≡ s.seat = seat_of s.seat (s.sync.before ++ made) s.sync.after around in
      let whose : other ≡ gateway = one_gateway setting lawful gateway other e.seat sits (subst (IsSeatOf setting other) (sym seat) s.sits) in
      let both : own ++ e ∷ behind ≡ (s.sync.before ++ made) ++ e ∷ s.sync.after = sym here ∙ ap (λ (n : ℕ). of_seat n journal) seat ∙ around in
      let front : own ≡ s.sync.before ++ made = one_place own behind (s.sync.before ++ made) s.sync.after e (subst Rises here (rises_filter (λ (x : Entry). x.seat == e.seat) journal rises)) both in
      let back : e ∷ behind ≡ e ∷ s.sync.after = append_cancel_left own (e ∷ behind) (e ∷ s.sync.after) (both ∙ ap (λ (es : List Entry). es ++ e ∷ s.sync.after) (sym front)) in
      record {
        begins = s.sync.before;
        is = front;
        run = subst (λ (g : ℕ). SyncRun (sync_rules setting g) (made ++ e ∷ []) end) whose (subst (λ (es : List Entry). SyncRun (sync_rules setting other) es end) ends s.sync.run);
        whole = λ none. let rest : behind ≡ s.sync.after = cc (back) in rest ∙ s.sync.whole none;
      }

  module _ (low : 1 ≤ rules.page_limit) (named : AllList own) where
    -- the sync of which an entry is told
    pub is_sync : (begin : ℕ) (how : Came) (t : IsOfSync rules own e begin how) → (t.end ≡ None → behind ≡ []) → IsSyncIn setting journal gateway (t.first ∷ t.others) t.end
    is_sync begin how t whole =
        let all : of_seat e.seat journal ≡ (t.front ++ (t.first ∷ t.others)) ++ behind = here ∙ sym (append_assoc own (e ∷ []) behind) ∙ ap (λ (es : List Entry). es ++ behind) t.parts in
        let by : IsSyncBy rules journal e.seat (t.first ∷ t.others) t.end = record { before = t.front; after = behind; parts = all; run = t.run; whole = whole } in
        let cut = last_split t.front (t.first ∷ t.others) own e t.parts (λ none. cc (none)) in
        record {
          seat = e.seat;
          sits = sits;
          sync = by;
          alone = alone_here rules low journal e.seat t.first t.others t.end by (left_list t.front cut.0 (subst AllList cut.2 named));
        }

    refused : (begin : ℕ) (how : Came) (t : IsOfSync rules own e begin how) → (t.end ≡ None → behind ≡ []) → (x y : ℕ) → IsOver (e.moment.ms + 1000) (begin + setting.script.rules.ignore.ms) x y → Refuses setting journal sync_time before e x y
    refused begin how t whole x y over =
        let cut = last_split t.front (t.first ∷ t.others) own e t.parts (λ none. cc (none)) in (
          t.first ∷ t.others,
          t.end,
          t.first,
          t.others,
          cut.0,
          (gateway, is_sync begin how t whole),
          refl,
          cut.1,
          subst (λ (b : ℕ). IsOver (e.moment.ms + 1000) (b + setting.script.rules.ignore.ms) x y) (sym t.begun) over,
        )

    first_is : (one other : Entry) (others more : List Entry) → one ∷ others ≡ other ∷ more → one ≡ other
    first_is one other others more same = cc (same)

    -- what is refused is told of
    over_told : (begin : ℕ) (how : Came) (t : IsOfSync rules own e begin how) → (x y : ℕ) → Refuses setting journal sync_time before e x y → IsOver (e.moment.ms + 1000) (begin + setting.script.rules.ignore.ms) x y
    over_told begin how t x y (entries, end, first, others, front, (other, s), begins, ends, over) =
        let is = ends_here other entries front end s ends in
        let same : first ≡ t.first = first_is first t.first others t.others (sym begins ∙ ends ∙ t.only is.begins front end is.is is.run) in
        subst (λ (b : ℕ). IsOver (e.moment.ms + 1000) (b + setting.script.rules.ignore.ms) x y) (ap (λ (z : Entry). z.moment.ms) same ∙ t.begun) over

    not_whole : (begin : ℕ) (how : Came) (t : IsOfSync rules own e begin how) → how ≡ GoesOn → behind ≢ [] → (x y : ℕ) → Refuses setting journal sync_time before e x y → ⊥
    not_whole begin how t goes more x y (entries, end, first, others, front, (other, s), begins, ends, over) =
        let is = ends_here other entries front end s ends in
        by_end end is.whole (subst (λ (es : List Entry). SyncRun rules es end) (t.only is.begins front end is.is is.run) is.run) (open_end t.end t.come)
      where
        by_end : (end : Option SyncEnd) → (end ≡ None → behind ≡ []) → SyncRun rules (t.first ∷ t.others) end → ((own : SyncEnd) → SyncRun rules (t.first ∷ t.others) (Some own) → ⊥) → ⊥
        by_end None whole run none = more (whole refl)
        by_end (Some own) whole run none = none own run

        open_end : (end : Option SyncEnd) → IsCome rules (t.first ∷ t.others) end how → (own : SyncEnd) → SyncRun rules (t.first ∷ t.others) (Some own) → ⊥
        open_end None come = come.1
        open_end (Some last) come = absurd (never_open last (sym goes ∙ come))

    whole_told : (begin : ℕ) (how : Came) (t : IsOfSync rules own e begin how) → (t.end ≡ None → behind ≡ []) → (answer : Option (ℕ × ℕ)) → IsTold (IsOver (e.moment.ms + 1000) (begin + setting.script.rules.ignore.ms)) answer → IsTold (Refuses setting journal sync_time before e) answer
    whole_told begin how t whole None none = λ x y refuses. none x y (over_told begin how t x y refuses)
    whole_told begin how t whole (Some (x, y)) over = refused begin how t whole x y over

    by_whole : (told : Told) (last whole : Bool) → is_whole told.came last ≡ whole → (last ≡ true → behind ≡ []) → (last ≡ false → behind ≢ []) → (answer : Option (ℕ × ℕ)) → (t : IsOfSync rules own e told.begin told.came)
        → IsSyncAnswer (Some told) last e.moment.ms setting.script.rules.ignore.ms answer → IsTold (Refuses setting journal sync_time before e) answer
    by_whole told last true is ends more answer t asked = whole_told told.begin told.came t (λ none. ends (whole_or_not rules (t.first ∷ t.others) t.end told.came last t.come is none)) answer (asked.0 is)
    by_whole told last false is ends more answer t asked =
        let open_so = open_came told.came last is in
        subst (IsTold (Refuses setting journal sync_time before e)) (sym (asked.1 is)) (λ x y refuses. not_whole told.begin told.came t open_so.0 (more open_so.1) x y refuses)

    -- what is answered is what the rule refuses
    pub sync_told : (told : Option Told) (last : Bool) → (last ≡ true → behind ≡ []) → (last ≡ false → behind ≢ []) → (answer : Option (ℕ × ℕ)) → IsToldOf rules own e told
        → IsSyncAnswer told last e.moment.ms setting.script.rules.ignore.ms answer → IsTold (Refuses setting journal sync_time before e) answer
    sync_told None last ends more answer none asked =
        subst (IsTold (Refuses setting journal sync_time before e)) (sym asked)
        (λ x y (entries, end, first, others, front, (other, s), begins, stops, over). let is = ends_here other entries front end s stops in none is.begins front end is.is is.run)
    sync_told (Some told) last ends more answer t asked = by_whole told last (is_whole told.came last) refl ends more answer t asked
