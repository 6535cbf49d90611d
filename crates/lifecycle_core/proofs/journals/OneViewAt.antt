-- At each entry of a journal a gateway has one view at most.
use Rattle.std.proofs.Common.{◌≡◌, ℕ, ◌==◌, List, [], ◌∷◌, ◌++◌, Contains, Some, refl, sym, ◌∙◌, ap, subst, arith}
use Rattle.std.proofs.lemmas.List.Elements.{Contains-append_left, Contains-append_right}
use Rattle.std.proofs.lemmas.List.Sums.{fold-append}
use Rattle.base.proofs.Membership.{of_filter}
use Rattle.world_core.specs.declared.entry.Entry.{Entry}
use Rattle.meta_fetcher.specs.Syncs.{SyncRun}
use Rattle.meta_fetcher.specs.declared.rules.SyncRules.{SyncRules}
use Rattle.meta_fetcher.specs.declared.sync.SyncEnd.TheVariants as fetched
use Rattle.meta_fetcher.specs.declared.view.View.{View}
use Rattle.lifecycle_core.specs.Breaches.{IsSyncIn, IsViewAt}
use Rattle.lifecycle_core.specs.Setting.{Setting}
use Rattle.lifecycle_core.specs.Tasks.{last_number, sync_rules}
use Rattle.lifecycle_core.proofs.journals.OneSync.{one_sync}
use Rattle.lifecycle_core.proofs.journals.Positions.{stands_in}
use Rattle.lifecycle_core.proofs.journals.Told.{Rises}
use Rattle.lifecycle_core.proofs.journals.Unbroken.{ends_with}
use Rattle.lifecycle_core.proofs.phases.Stretches.{no_listing}
use Rattle.lifecycle_core.proofs.views.SyncEnds.{sync_tells}
use Rattle.lifecycle_core.proofs.deeds.Orders.{one_entry}

-- the last entry of a sync that gave a view
pub record HasLast (entries : List Entry) : Type 0 where
  pub front : List Entry
  pub entry : Entry
  pub parts : entries ≡ front ++ entry ∷ []
  pub number : last_number entries ≡ entry.seq

pub last_of : (rules : SyncRules) (entries : List Entry) (view : View) → SyncRun rules entries (Some (fetched.View view)) → HasLast entries
last_of rules [] view run = absurd (no_listing rules 999_999 run.0 run.1)
last_of rules (e ∷ entries) view run =
    let tail = ends_with e entries in
    record { front = tail.0; entry = tail.1; parts = tail.2; number = ap last_number tail.2 ∙ fold-append (λ (last : ℕ) (x : Entry). x.seq) 0 tail.0 (tail.1 ∷ []) }

module _ (setting : Setting) (journal : List Entry) (rises : Rises journal) where
  -- an entry of a sync is one of the journal
  pub of_journal : (gateway : ℕ) (entries : List Entry) (view : View) (e : Entry) → (s : IsSyncIn setting journal gateway entries (Some (fetched.View view))) → Contains entries e → Contains journal e
  of_journal gateway entries view e s among =
      let own : Contains ((s.sync.before ++ entries) ++ s.sync.after) e = Contains-append_left (s.sync.before ++ entries) s.sync.after e (Contains-append_right s.sync.before entries e among) in
      of_filter (λ (x : Entry). x.seat == s.seat) journal e (subst (λ (es : List Entry). Contains es e) (sym s.sync.parts) own)

  same_sync : (gateway : ℕ) (entries others : List Entry) (view other : View) → IsSyncIn setting journal gateway entries (Some (fetched.View view)) → IsSyncIn setting journal gateway others (Some (fetched.View other)) → last_number entries ≡ last_number others → entries ≡ others
  same_sync gateway entries others view other s t same =
      let one = last_of (sync_rules setting gateway) entries view s.sync.run in
      let two = last_of (sync_rules setting gateway) others other t.sync.run in
      let here = of_journal gateway entries view one.entry s (subst (λ (es : List Entry). Contains es one.entry) (sym one.parts) (stands_in one.front [] one.entry)) in
      let there = of_journal gateway others other two.entry t (subst (λ (es : List Entry). Contains es two.entry) (sym two.parts) (stands_in two.front [] two.entry)) in
      let last : two.entry ≡ one.entry = one_entry journal rises two.entry one.entry there here (sym two.number ∙ sym same ∙ one.number) in
      one_sync setting journal rises one.entry gateway gateway entries others one.front two.front (Some (fetched.View view)) (Some (fetched.View other)) s t one.parts (two.parts ∙ ap (λ (x : Entry). two.front ++ x ∷ []) last) refl

  pub one_view : (gateway number : ℕ) (view other : View) → IsViewAt setting journal gateway number view → IsViewAt setting journal gateway number other → other ≡ view
  one_view gateway number view other v w =
      let upto = v.last w.entries other w.gave w.before in
      let from = w.last v.entries view v.gave v.before in
      let same = same_sync gateway v.entries w.entries view other v.gave w.gave (omega (arith, upto, from)) in
      let also : SyncRun (sync_rules setting gateway) v.entries (Some (fetched.View other)) = subst (λ (es : List Entry). SyncRun (sync_rules setting gateway) es (Some (fetched.View other))) (sym same) w.gave.sync.run in
      let ends : fetched.View view ≡ fetched.View other = sync_tells (sync_rules setting gateway) v.entries (fetched.View view) (fetched.View other) v.gave.sync.run also in
      cc (ends)
