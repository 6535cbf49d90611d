use Rattle.std.proofs.Common.{◌+◌, ◌*◌, length, arith, ap}
use Rattle.shipper.specs.contracts.upload.UploadMachine.TheImpl.{ghosts as uploads}
use Rattle.compactor.specs.NewBlocks.{block_objects}
use Rattle.shipper.proofs.UploadCounts.{uploads_few}
use Rattle.compactor.proofs.CompactCounts.{under_at}
use Rattle.compactor.proofs.Uploading.{upload_asks, upload_keeps}
use Rattle.compactor.specs.CompactStates.{asked_compact, count_of as count_of_all}
use Rattle.compactor.proofs.CompactSteps.{to_state}
use Rattle.compactor.proofs.compact.Compact.upload.Goals as goal

pub returns-clause-leads : goal.returns-clause-leads
returns-clause-leads c =
    let block = c.args.block in
    let keeps = upload_keeps c.start.result c.in_ok-upload.upload block c.args.ulid c.in_ok-objects.objects c.in_ok-upload.was c.requires.ulid c.in_ok-objects.ensures.block c.in_ok-objects.ensures.objects c.start.ensures.run in
    upload_asks c.args.self.now c.args.parents.items c.args.ulid (block_objects c.args.ulid block) c.in_ok-upload.upload keeps c.first.new.self
    _ c.in-Do.op _ c.in-Do.is (ap asked_compact c.wait_in.ensures) (to_state _ _ c.wait_in.ensures) c.in_ok-act.ensures

pub returns-clause-falls : goal.returns-clause-falls
returns-clause-falls c = under_at (3 * length c.args.self.now.groups.items + 3) (3 * length c.args.self.now.groups.items + 4) (uploads.measure c.first.new.self) _ (ap count_of_all c.wait_in.ensures) (omega arith) (uploads_few c.first.new.self)
