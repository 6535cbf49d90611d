use Rattle.std.proofs.Common.{refl, subst}
use Rattle.std.specs.Prelude.{None}
use Rattle.meta_fetcher.specs.Syncs.{SyncRun}
use Rattle.meta_fetcher.specs.declared.rules.SyncRules.{SyncRules}
use Rattle.world_core.specs.Machines.{Drives}
use Rattle.script_workers.specs.declared.work.Work.TheVariants as works
use Rattle.script_running.specs.Lending.{setting_in}
use Rattle.lifecycle_core.specs.Tasks.{sync_rules, synced}
use Rattle.script_running.specs.Outcomes.{sync_outcome}
use Rattle.script_running.specs.declared.came.Came.TheVariants as part
use Rattle.script_running.proofs.Leaving.{end_left}
use Rattle.script_running.proofs.Syncs.{driven_told}
use Rattle.script_running.proofs.activity.sync.Goals as goal

pub returns-clause-ran : goal.returns-clause-ran
returns-clause-ran g c =
    let told =
    driven_told (SyncRun (sync_rules (setting_in c.args.means.now) c.args.place)) (g.H.Hand.told c.args.hand.now).seat c.run_sync.result (g.H.Hand.told c.args.hand.now).entries (g.H.Hand.told c.run_sync.new.hand).entries
    (works.Sync c.args.place) synced (λ end. part.Sync (sync_outcome end)) c.take_view.result c.take_view.ensures.came (λ end. refl)
    (subst (λ (r : SyncRules). Drives (SyncRun r) (g.H.Hand.told c.args.hand.now).seat None c.run_sync.result (g.H.Hand.told c.args.hand.now).entries (g.H.Hand.told c.run_sync.new.hand).entries) c.sync_rules.ensures.rules c.run_sync.ensures.run) in
    (_, told.0, told.1, c.take_view.ensures.view)

pub returns-clause-hand : goal.returns-clause-hand
returns-clause-hand g c = end_left g.H.Hand.told g.H.Hand.keeps (λ end. part.Sync (sync_outcome end)) _ _ c.run_sync.result c.take_view.result c.take_view.ensures.came c.run_sync.ensures.hand
