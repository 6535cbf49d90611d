use Rattle.std.proofs.Common.{refl}
use Rattle.cleaner.specs.Cleanings.{cleaning}
use Rattle.script_workers.specs.declared.work.Work.TheVariants as works
use Rattle.lifecycle_core.specs.Tasks.{cleaned}
use Rattle.script_running.specs.declared.came.Came.TheVariants as part
use Rattle.script_running.proofs.Stopped.{stopped_told}
use Rattle.script_running.proofs.Leaving.{stop_left}
use Rattle.script_running.proofs.upkeep.clean.Goals as goal

pub returns-clause-ran : goal.returns-clause-ran
returns-clause-ran g c =
    stopped_told (cleaning c.args.rules.now) cleaned (λ end. part.Clean end) c.args.stop (g.H.Hand.told c.args.hand.now).seat c.run_cleaning.result (g.H.Hand.told c.args.hand.now).entries (g.H.Hand.told c.run_cleaning.new.hand).entries
    c.clean_came.result (works.Clean c.args.stop) c.clean_came.ensures (record { ends = λ end. refl; stops = λ n. refl }) c.run_cleaning.ensures.run

pub returns-clause-hand : goal.returns-clause-hand
returns-clause-hand g c = stop_left g.H.Hand.told g.H.Hand.keeps (λ end. part.Clean end) _ _ c.run_cleaning.result c.clean_came.result c.clean_came.ensures c.run_cleaning.ensures.hand
