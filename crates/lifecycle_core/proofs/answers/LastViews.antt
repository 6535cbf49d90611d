-- The view by which a worker did a task is its gateway's last one, and where the bucket is honest it is the gateway's view at each
-- entry of the task.
use Rattle.base.proofs.Membership.{all_members, contains_first, of_filter}
use Rattle.std.proofs.Common.{◌≡◌, ℕ, ◌<◌, ◌≤◌, ◌==◌, List, [], ◌∷◌, ◌++◌, Contains, Some, sym, ◌∙◌, ap, subst, append_assoc, arith}
use Rattle.std.proofs.lemmas.List.Elements.{All-contains, Contains-append_left}
use Rattle.world_core.specs.Standing.{IsHonest, stands}
use Rattle.world_core.specs.declared.entry.Entry.{Entry}
use Rattle.meta_fetcher.specs.Syncs.{SyncRun}
use Rattle.meta_fetcher.specs.declared.sync.SyncEnd.TheVariants as fetched
use Rattle.script_core.specs.Lawful.{IsLawfulScript}
use Rattle.script_workers.specs.declared.task.Task.{Task}
use Rattle.lifecycle_core.specs.Breaches.{IsSyncIn, IsViewAt, NoViewBetween}
use Rattle.world_core.specs.Journals.{of_seat}
use Rattle.lifecycle_core.specs.Holdings.{Use}
use Rattle.lifecycle_core.specs.Phases.{IsRunOf}
use Rattle.lifecycle_core.specs.Setting.{Setting}
use Rattle.lifecycle_core.specs.SyncsAndCalls.{IsSyncBy}
use Rattle.lifecycle_core.specs.Tasks.{End, last_number, sync_rules}
use Rattle.lifecycle_core.proofs.deeds.Orders.{lower_is_in_front}
use Rattle.lifecycle_core.proofs.journals.Rising.{journal_rises}
use Rattle.lifecycle_core.proofs.journals.Standing.{parted}
use Rattle.lifecycle_core.proofs.journals.Told.{IsMade, IsOrigin, Rises}
use Rattle.lifecycle_core.proofs.phases.OwnSyncs.{IsLatestAt, upto_last}
use Rattle.lifecycle_core.proofs.phases.Stretches.{no_listing, rises_filter, rises_left, rises_right}
use Rattle.lifecycle_core.proofs.views.Alone.{alone_here}
use Rattle.lifecycle_core.proofs.views.Named.{tells_names}
use Rattle.lifecycle_core.proofs.views.OneOpening.{ListsNames}
use Rattle.lifecycle_core.proofs.deeds.ActingDeeds.{rises_apart}

module _ (setting : Setting) (journal : List Entry) {task : Task} {end : End} (m : IsMade setting journal task end) (used : Use) (is : m.held.used ≡ Some used) (gateway : ℕ) (by : m.who.gateway ≡ Some gateway) where
  -- no sync that gave a view came between
  pub none_between : IsLatestAt setting journal gateway m.entries m.held → (e : Entry) → Contains m.entries e → NoViewBetween setting journal gateway used.last e.seq
  none_between latest e among others other s less =
      let h = latest others other s e among less in
      let same : h.0 ≡ used = cc (h.1, is) in
      subst (λ (u : Use). last_number others ≤ u.last) same h.2

  abbrev origin : IsOrigin setting journal used
  origin = m.origin used is

  abbrev by_rules : SyncRun (sync_rules setting gateway) origin.entries (Some (fetched.View used.view))
  by_rules = subst (λ (n : ℕ). SyncRun (sync_rules setting n) origin.entries (Some (fetched.View used.view))) (m.same used is gateway by) origin.run

  module _ (lawful : IsLawfulScript setting.script) (ends : List (List (List End))) (run : IsRunOf setting journal ends) (e : Entry) (among : Contains m.entries e) (front back : List Entry) (at : journal ≡ front ++ e ∷ back) (honest : IsHonest (front ++ e ∷ [])) where
    rises : Rises journal
    rises = journal_rises setting.script.rules.tick.ms journal run.kept

    -- what was read before lists no empty name
    named : (x : Entry) → Contains journal x → x.seq < e.seq → ListsNames x.reply
    named x inside less =
        let early = lower_is_in_front front back e x (subst Rises at rises) (subst (λ (es : List Entry). Contains es x) at inside) less in
        let p = parted front x early in
        let upto : front ++ e ∷ [] ≡ p.0 ++ x ∷ (p.1 ++ e ∷ []) = ap (λ (es : List Entry). es ++ e ∷ []) p.2 ∙ append_assoc p.0 (x ∷ p.1) (e ∷ []) in
        let whole : journal ≡ p.0 ++ x ∷ (p.1 ++ e ∷ back) = at ∙ ap (λ (es : List Entry). es ++ e ∷ back) p.2 ∙ append_assoc p.0 (x ∷ p.1) (e ∷ back) in
        tells_names (stands p.0) x.op x.reply (run.kept.kinds p.0 (p.1 ++ e ∷ back) x whole) (honest p.0 (p.1 ++ e ∷ []) x upto)

    -- so no sync reaches into the one that gave the view
    alone_from : (entries before after : List Entry) → of_seat origin.seat journal ≡ (before ++ entries) ++ after → (run : SyncRun (sync_rules setting gateway) entries (Some (fetched.View used.view))) → last_number entries < e.seq
        → IsSyncIn setting journal gateway entries (Some (fetched.View used.view))
    alone_from [] before after parts run less = absurd (no_listing (sync_rules setting gateway) 999_999 run.0 run.1)
    alone_from (first ∷ others) before after parts run less =
        let s : IsSyncBy (sync_rules setting gateway) journal origin.seat (first ∷ others) (Some (fetched.View used.view)) = record { before = before; after = after; parts = parts; run = run; whole = λ none. absurd (cc (none)) } in
        let up : Rises ((before ++ (first ∷ others)) ++ after) = subst Rises parts (rises_filter (λ (x : Entry). x.seat == origin.seat) journal rises) in
        let own : Rises (before ++ (first ∷ others)) = rises_left (before ++ (first ∷ others)) after up in
        let last = upto_last (sync_rules setting gateway) (first ∷ others) used.view run (rises_right before (first ∷ others) own) first (contains_first first others) in
        let earlier : (x : Entry) → Contains before x → ListsNames x.reply = λ x inside.
        let lower = rises_apart before (first ∷ others) own x first inside (contains_first first others) in
        let seat : Contains (of_seat origin.seat journal) x = subst (λ (es : List Entry). Contains es x) (sym parts) (Contains-append_left (before ++ (first ∷ others)) after x (Contains-append_left before (first ∷ others) x inside)) in
        named x (of_filter (λ (z : Entry). z.seat == origin.seat) journal x seat) (omega (arith, lower, last, less)) in record {
          seat = origin.seat;
          sits = m.sits used is gateway by;
          sync = s;
          alone = alone_here (sync_rules setting gateway) lawful.rules.page_limit_low journal origin.seat first others (Some (fetched.View used.view)) s (all_members (λ (x : Entry). ListsNames x.reply) before earlier);
        }

    pub is_sync : IsSyncIn setting journal gateway origin.entries (Some (fetched.View used.view))
    is_sync =
        let later = All-contains (λ (x : Entry). used.last < x.seq) m.entries e (m.later used is) among in
        alone_from origin.entries origin.stretch.before origin.stretch.after origin.stretch.parts by_rules (subst (λ (n : ℕ). n < e.seq) origin.last later)

    pub view_at : IsLatestAt setting journal gateway m.entries m.held → IsViewAt setting journal gateway e.seq used.view
    view_at latest =
        let later = All-contains (λ (x : Entry). used.last < x.seq) m.entries e (m.later used is) among in record {
          entries = origin.entries;
          gave = is_sync;
          before = subst (λ (n : ℕ). n < e.seq) origin.last later;
          last = subst (λ (n : ℕ). NoViewBetween setting journal gateway n e.seq) origin.last (none_between latest e among);
        }
