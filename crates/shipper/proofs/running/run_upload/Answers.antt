use Rattle.world_core.proofs.PlanLaws.{breaks_off}
use Rattle.world_core.specs.Plans.{Runs}
use Rattle.shipper.specs.Uploads.{upload}
use Rattle.world_core.proofs.BegunDrives.{begun_as}
use Rattle.shipper.proofs.running.run_upload.Goals as goal

pub returns-clause-run : goal.returns-clause-run
returns-clause-run g c = λ ulid block. begun_as _ (Runs (upload ulid c.args.objects)) c.start.result (g.H.Hand.told c.args.hand.now).seat c.args.stop c.run_begun.result (g.H.Hand.told c.args.hand.now).entries (g.H.Hand.told c.run_begun.new.hand).entries (breaks_off (upload ulid c.args.objects)) (c.start.ensures.run ulid block) c.run_begun.ensures.run
