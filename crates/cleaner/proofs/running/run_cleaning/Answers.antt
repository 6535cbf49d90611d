use Rattle.world_core.proofs.PlanLaws.{breaks_off}
use Rattle.cleaner.specs.Cleanings.{CleanRun, cleaning}
use Rattle.world_core.proofs.BegunDrives.{begun_as}
use Rattle.cleaner.proofs.running.run_cleaning.Goals as goal

pub returns-clause-run : goal.returns-clause-run
returns-clause-run g c = begun_as _ (CleanRun c.args.rules.now) c.start.result (g.H.Hand.told c.args.hand.now).seat c.args.stop c.run_begun.result (g.H.Hand.told c.args.hand.now).entries (g.H.Hand.told c.run_begun.new.hand).entries (breaks_off (cleaning c.args.rules.now)) c.start.ensures.run c.run_begun.ensures.run
