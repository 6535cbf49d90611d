use Rattle.std.proofs.Common.{refl}
use Rattle.compactor.specs.Compactions.{compaction}
use Rattle.script_workers.specs.declared.work.Work.TheVariants as works
use Rattle.lifecycle_core.specs.Tasks.{compacted}
use Rattle.script_running.specs.declared.came.Came.TheVariants as part
use Rattle.script_running.proofs.Stopped.{stopped_told}
use Rattle.script_running.proofs.Leaving.{stop_left}
use Rattle.script_running.proofs.upkeep.compact.Goals as goal

pub returns-clause-ran : goal.returns-clause-ran
returns-clause-ran g c =
    stopped_told (compaction c.args.rules.now) compacted (λ end. part.Compact end) c.args.stop (g.H.Hand.told c.args.hand.now).seat c.run_compaction.result (g.H.Hand.told c.args.hand.now).entries (g.H.Hand.told c.run_compaction.new.hand).entries
    c.compact_came.result (works.Compact c.args.stop) c.compact_came.ensures (record { ends = λ end. refl; stops = λ n. refl }) c.run_compaction.ensures.run

pub returns-clause-hand : goal.returns-clause-hand
returns-clause-hand g c = stop_left g.H.Hand.told g.H.Hand.keeps (λ end. part.Compact end) _ _ c.run_compaction.result c.compact_came.result c.compact_came.ensures c.run_compaction.ensures.hand
