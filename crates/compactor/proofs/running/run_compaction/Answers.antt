use Rattle.world_core.proofs.PlanLaws.{breaks_off}
use Rattle.compactor.specs.Compactions.{CompactRun, compaction}
use Rattle.world_core.proofs.BegunDrives.{begun_as}
use Rattle.compactor.proofs.running.run_compaction.Goals as goal

pub returns-clause-run : goal.returns-clause-run
returns-clause-run g c = begun_as _ (CompactRun c.args.rules.now) c.start.result (g.H.Hand.told c.args.hand.now).seat c.args.stop c.run_begun.result (g.H.Hand.told c.args.hand.now).entries (g.H.Hand.told c.run_begun.new.hand).entries (breaks_off (compaction c.args.rules.now)) c.start.ensures.run c.run_begun.ensures.run
