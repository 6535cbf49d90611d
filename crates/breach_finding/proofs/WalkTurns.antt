-- A walk along a journal, entry by entry.
use Rattle.base.proofs.Membership.{contains_first, each_member, no_member, of_filter}
use Rattle.std.proofs.Common.{◌≡◌, inl, inr, ℕ, zero, suc, ◌+◌, ◌≤◌, ◌==◌, List, [], ◌∷◌, ◌++◌, take, drop, Contains, length, Option, Some, None, refl, sym, ◌∙◌, ap, subst, arith, append_assoc}
use Rattle.std.specs.Prelude.{slice_get}
use Rattle.std.specs.BTreeMap.{IsEmpty, get}
use Rattle.std.specs.List.{AllByRecursion}
use Rattle.std.specs.Ordering.{nat_cmp}
use Rattle.std.proofs.lemmas.Bool.{cases_lt}
use Rattle.std.proofs.lemmas.List.Elements.{Contains-append_left, Contains-append_right}
use Rattle.std.proofs.lemmas.Option.{slice_get_past}
use Rattle.bucket_core.specs.Contents.{nothing}
use Rattle.world_core.specs.Standing.{left_by, stands}
use Rattle.world_core.specs.Worlds.{IsJournal, IsOfBytes}
use Rattle.world_core.specs.declared.entry.Entry.{Entry}
use Rattle.meta_fetcher.specs.declared.view.View.{View}
use Rattle.script_core.specs.Lawful.{IsLawfulScript}
use Rattle.script_core.specs.Workers.{seats_before, workers_after, workers_of}
use Rattle.script_core.specs.declared.script.Script.{Script}
use Rattle.script_workers.specs.declared.worker.Worker.{Worker}
use Rattle.breach_finding.specs.Standings.{IsStanding}
use Rattle.breach_finding.specs.declared.standing.Standing.{Standing}
use Rattle.lifecycle_core.specs.Breaches.{IsBreach, IsKept, IsSeatOf, IsViewAt, Refuses, Rule}
use Rattle.lifecycle_core.specs.Setting.{FromShelf, Setting}
use Rattle.lifecycle_core.specs.Tasks.{sync_rules}
use Rattle.breach_finding.specs.Entries.{IsAskedOn, IsEarlyTold, IsEntryTold, IsWatchedTold}
use Rattle.breach_finding.specs.Judging.{IsJudged}
use Rattle.breach_finding.specs.Seats.{IsWatched}
use Rattle.breach_finding.specs.Tables.{AreTablesOf, Numbers, SitsBefore}
use Rattle.breach_finding.specs.Views.{IsLastView}
use Rattle.breach_finding.specs.Walks.{IsFound, IsWalked, UnderWays, rule_of, setting_with}
use Rattle.breach_finding.specs.Watching.{IsWaiting}
use Rattle.breach_finding.specs.declared.followed.Followed.{Followed}
use Rattle.breach_finding.specs.declared.found.Breach.{Breach}
use Rattle.breach_finding.specs.declared.found.BreachRule.{BreachRule}
use Rattle.breach_finding.specs.declared.found.Refusal.{Refusal}
use Rattle.breach_finding.specs.declared.tables.Tables.{Tables}
use Rattle.breach_finding.proofs.Compactors.{compaction_told}
use Rattle.breach_finding.proofs.SeatTables.{empty_get}
use Rattle.breach_finding.proofs.SeatTurns.{no_parts}
use Rattle.breach_finding.proofs.ViewTimes.{last_of}
use Rattle.breach_finding.proofs.WalkJudged.{found_breach, is_kept, judged_all, judged_late, judged_past, walked_on, walked_past}

-- ---- the parts at a place

pub parts_at : (xs : List Entry) (place : ℕ) (e : Entry) → slice_get xs place ≡ Some e → xs ≡ take place xs ++ e ∷ drop (suc place) xs
parts_at [] place e at = cc (at)
parts_at (x ∷ xs) zero e at = let same : x ≡ e = cc (at) in ap (λ (z : Entry). z ∷ xs) same
parts_at (x ∷ xs) (suc place) e at = ap (λ (zs : List Entry). x ∷ zs) (parts_at xs place e at)

front_at : (xs : List Entry) (place : ℕ) (e : Entry) → slice_get xs place ≡ Some e → take (suc place) xs ≡ take place xs ++ e ∷ []
front_at [] place e at = cc (at)
front_at (x ∷ xs) zero e at = let same : x ≡ e = cc (at) in ap (λ (z : Entry). z ∷ []) same
front_at (x ∷ xs) (suc place) e at = ap (λ (zs : List Entry). x ∷ zs) (front_at xs place e at)

pub front_more : (xs : List Entry) (place : ℕ) (e : Entry) → slice_get xs place ≡ Some e → take (place + 1) xs ≡ take place xs ++ e ∷ []
front_more xs place e at = let more : suc place ≡ place + 1 = omega arith in subst (λ n. take n xs ≡ take place xs ++ e ∷ []) more (front_at xs place e at)

-- ---- seats

sits_before : (script : Script) (shelf : ℕ → FromShelf) (gateway seat : ℕ) → IsSeatOf (setting_with script shelf) gateway seat → SitsBefore script (length script.phases) gateway seat
sits_before script shelf gateway seat (number, worker, among, whose, sits) = elim (cases_lt number (length script.phases)) [
  | inl below ↦ (number, below, worker, among, whose, sits)
  | inr far ↦ (let none : workers_of script number ≡ [] = ap (workers_after script (seats_before script number)) (slice_get_past script.phases number far) in
      absurd (no_member worker (subst (λ (ws : List Worker). Contains ws worker) none among)))
]

sits_of : (script : Script) (shelf : ℕ → FromShelf) (gateway seat : ℕ) → SitsBefore script (length script.phases) gateway seat → IsSeatOf (setting_with script shelf) gateway seat
sits_of script shelf gateway seat (number, less, worker, among, whose, sits) = (number, worker, among, whose, sits)

-- ---- before the first entry

numbered_from : (journal front others : List Entry) (tick : ℕ) → IsJournal tick journal → journal ≡ front ++ others → AllByRecursion (λ x. 1 ≤ x.seq) others
numbered_from journal front [] tick is parts = tt
numbered_from journal front (x ∷ others) tick is parts = (let number = is.numbered front others x parts in omega (arith, number), numbered_from journal (front ++ x ∷ []) others tick is (parts ∙ sym (append_assoc front (x ∷ []) others)))

module _ (setting : Setting) (tick : ℕ) (journal : List Entry) (is : IsJournal tick journal) where
  no_view_yet : (gateway : ℕ) (view : View) → IsViewAt setting journal gateway 1 view → ⊥
  no_view_yet gateway view v =
      let s = v.gave in
      let last = last_of (sync_rules setting gateway) v.entries view s.sync.run in
      let inside : Contains v.entries last.entry = subst (λ (es : List Entry). Contains es last.entry) (sym last.parts) (Contains-append_right last.front (last.entry ∷ []) last.entry (contains_first last.entry [])) in
      let own : Contains ((s.sync.before ++ v.entries) ++ s.sync.after) last.entry = Contains-append_left (s.sync.before ++ v.entries) s.sync.after last.entry (Contains-append_right s.sync.before v.entries last.entry inside) in
      let there : Contains journal last.entry = of_filter (λ (x : Entry). x.seat == s.seat) journal last.entry (subst (λ (es : List Entry). Contains es last.entry) (sym s.sync.parts) own) in
      let number : 1 ≤ last.entry.seq = each_member (λ (x : Entry). 1 ≤ x.seq) journal last.entry (numbered_from journal [] journal tick is refl) there in
      let before = v.before in
      absurd (omega (arith, before, last.number, number))

  pub walk_begins : (standing : Standing) (unders : UnderWays) (views : Numbers) → IsStanding journal standing nothing → IsEmpty unders → IsEmpty views → IsWalked setting journal [] standing unders views
  walk_begins standing unders views held none no_views = record {
    held = held;
    watched = λ gateway seat sits.
        subst (IsWatched (sync_rules setting gateway) []) (sym (empty_get unders none seat)) (λ front made parts some can. some (no_parts front made parts));
    waits = λ seat. subst IsWaiting (sym (empty_get unders none seat)) tt;
    seen = λ gateway. subst (IsLastView setting journal gateway 1) (sym (empty_get views no_views gateway)) (λ view v. no_view_yet gateway view v);
    kept = λ before after e parts. let nil : [] ≡ before ++ e ∷ after = parts in cc (no_parts before (e ∷ after) nil);
  }

-- ---- an entry

module _ (script : Script) (shelf : ℕ → FromShelf) (lawful : IsLawfulScript script) (tick : ℕ) (journal : List Entry) (is : IsJournal tick journal) (bytes : IsOfBytes journal) (tables : Tables) (are : AreTablesOf script journal tables)
    (place : ℕ) (e : Entry) (at : slice_get journal place ≡ Some e) (old new : Followed)
    (walked : IsWalked (setting_with script shelf) journal (take place journal) old.standing old.unders old.views) (told : Option Refusal) where
  abbrev setting : Setting
  setting = setting_with script shelf

  abbrev before : List Entry
  before = take place journal

  abbrev after : List Entry
  after = drop (suc place) journal

  parts : journal ≡ before ++ e ∷ after
  parts = parts_at journal place e at

  nobody_sits : get nat_cmp tables.gateways e.seat ≡ None → (gateway : ℕ) → IsSeatOf setting gateway e.seat → ⊥
  nobody_sits none gateway sits = let own = (are.gateways).all e.seat gateway (sits_before script shelf gateway e.seat sits) in cc (own, none)

  abbrev R : Rule → ℕ → ℕ → Type 0
  R rule = Refuses setting journal rule before e

  found_so : (below : ℕ) (r : Refusal) → IsJudged R below (Some r) → IsBreach setting journal (rule_of r.rule) e.seq r.found r.allowed
  found_so below r judged = found_breach setting lawful tick journal is bytes before after e parts old walked below r judged

  sits_here : (gateway : ℕ) → get nat_cmp tables.gateways e.seat ≡ Some gateway → IsSeatOf setting gateway e.seat
  sits_here gateway whose = sits_of script shelf gateway e.seat ((are.gateways).found e.seat gateway whose)

  none_early : IsEarlyTold script journal old.standing e None → IsJudged R 3 None
  none_early early = early setting journal before refl walked.held

  late_judged : IsEarlyTold script journal old.standing e None → (late : Option Refusal) → IsWatchedTold script tables old new e late → IsJudged R 5 late
  late_judged early late (inl t) = subst (IsJudged R 5) (sym t.none) (judged_past setting lawful tick journal is bytes before after e parts old walked (nobody_sits t.nobody) (none_early early))
  late_judged early late (inr t) =
      judged_late setting lawful tick journal is bytes before after e parts old walked t.gateway (sits_here t.gateway t.whose) tables.lasts are.lasts (none_early early) new late t.late

  all_judged : IsAskedOn script journal tables old new e told → IsJudged R 6 told
  all_judged t =
      judged_all setting lawful tick journal is bytes before after e parts old walked t.late told t.slow (late_judged t.early t.late t.watched)
      (compaction_told script shelf journal before e tables.compactors (get nat_cmp tables.begins e.seat) are.compactors (are.begins e.seat) t.slow t.slow_is) t.answer

  pub refused_here : IsEntryTold script journal tables old new e told → (r : Refusal) → told ≡ Some r → IsBreach setting journal (rule_of r.rule) e.seq r.found r.allowed
  refused_here (inl t) r some =
      let same : t.refusal ≡ r = cc (t.is, some) in
      subst (λ (q : Refusal). IsBreach setting journal (rule_of q.rule) e.seq q.found q.allowed) same (found_so 3 t.refusal (t.early setting journal before refl walked.held))
  refused_here (inr t) r some = found_so 6 r (subst (IsJudged R 6) some (all_judged t))

  -- what stands is as before
  stands_still : IsEntryTold script journal tables old new e told → told ≡ None → new.standing ≡ old.standing
  stands_still (inl t) none = cc (t.is, none)
  stands_still (inr t) none = by_watched t.late t.watched
    where
      by_watched : (late : Option Refusal) → IsWatchedTold script tables old new e late → new.standing ≡ old.standing
      by_watched late (inl w) = ap (λ (f : Followed). f.standing) w.same
      by_watched late (inr w) = w.late.standing

  pub goes_on : IsEntryTold script journal tables old new e told → told ≡ None → (stood : Standing) → (IsStanding journal new.standing (stands before) → IsStanding journal stood (left_by e.op e.reply (stands before)))
      → IsWalked setting journal (take (place + 1) journal) stood new.unders new.views
  goes_on t none stood stand = subst (λ (es : List Entry). IsWalked setting journal es stood new.unders new.views) (sym (front_more journal place e at)) (by_told t)
    where
      held : IsStanding journal stood (left_by e.op e.reply (stands before))
      held = stand (subst (λ (s : Standing). IsStanding journal s (stands before)) (sym (stands_still t none)) walked.held)

      by_watched : (early : IsEarlyTold script journal old.standing e None) (late : Option Refusal) → IsKept setting journal before e → IsWatchedTold script tables old new e late → IsWalked setting journal (before ++ e ∷ []) stood new.unders new.views
      by_watched early late kept (inl t) =
          subst (λ (f : Followed). IsWalked setting journal (before ++ e ∷ []) stood f.unders f.views) (sym t.same)
          (walked_past setting lawful tick journal is bytes before after e parts old walked (nobody_sits t.nobody) (none_early early) kept stood held)
      by_watched early late kept (inr t) =
          walked_on setting lawful tick journal is bytes before after e parts old walked t.gateway (sits_here t.gateway t.whose) tables.lasts are.lasts
          (none_early early) new late t.late kept stood held

      by_told : IsEntryTold script journal tables old new e told → IsWalked setting journal (before ++ e ∷ []) stood new.unders new.views
      by_told (inl t) = cc (t.is, none)
      by_told (inr t) =
          by_watched t.early t.late (is_kept setting lawful tick journal is bytes before after e parts old walked (subst (IsJudged R 6) none (all_judged t))) t.watched

-- the breach that is made of a refusal
pub found_is : (setting : Setting) (journal : List Entry) (r : Refusal) (number : ℕ) (b : Breach) → b.rule ≡ r.rule → b.entry ≡ number → b.found ≡ r.found → b.allowed ≡ r.allowed → IsBreach setting journal (rule_of r.rule) number r.found r.allowed → IsFound setting journal b
found_is setting journal r number b rule entry found allowed is =
    subst (λ (c : BreachRule). IsBreach setting journal (rule_of c) b.entry b.found b.allowed) (sym rule)
    (subst (λ (n : ℕ). IsBreach setting journal (rule_of r.rule) n b.found b.allowed) (sym entry)
    (subst (λ (n : ℕ). IsBreach setting journal (rule_of r.rule) number n b.allowed) (sym found)
    (subst (λ (n : ℕ). IsBreach setting journal (rule_of r.rule) number r.found n) (sym allowed) is)))
