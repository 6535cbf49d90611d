use Rattle.std.proofs.Common.{◌+◌, ◌*◌, length, ap}
use Rattle.world_core.specs.Operations.{entry_of}
use Rattle.shipper.specs.contracts.upload.UploadMachine.TheImpl.{ghosts as uploads}
use Rattle.compactor.specs.CompactStates.{most_asked, asked_compact, count_of as count_of_all}
use Rattle.compactor.proofs.CompactCounts.{same_level, level_falls, falls_at}
use Rattle.compactor.proofs.Uploading.{upload_goes, upload_ends}
use Rattle.compactor.proofs.CompactSteps.{to_state}
use Rattle.compactor.proofs.compact.Compact.step_upload.Goals as goal

pub returns-in-Do-clause-goes_on : goal.returns-in-Do-clause-goes_on
returns-in-Do-clause-goes_on c = λ seat op asks.
    upload_goes c.args.self.now c.args.parents.items c.args.upload c.step.new.self (entry_of seat op c.args.seen)
    _ c.in-Do.op _ c.in-Do.is (ap asked_compact c.wait_in.ensures) (to_state _ _ c.wait_in.ensures) (c.in_ok-act.ensures.goes_on seat op asks)

pub returns-in-Do-clause-falls : goal.returns-in-Do-clause-falls
returns-in-Do-clause-falls c = falls_at (most_asked * (3 * length c.args.self.now.groups.items + 3)) (uploads.measure c.args.upload) (uploads.measure c.step.new.self) _ _ _ (ap count_of_all c.wait_in.ensures) c.in-Do.is c.in_ok-act.ensures.falls

pub returns-in-Done-clause-goes_on : goal.returns-in-Done-clause-goes_on
returns-in-Done-clause-goes_on c = λ seat op asks.
    upload_ends c.args.self.now c.args.parents.items c.args.upload c.step.new.self (entry_of seat op c.args.seen)
    _ c.in-Done.end c.after_upload.result c.after_upload.new.self c.in-Done.is (c.in_ok-act.ensures.goes_on seat op asks) c.after_upload.ensures.leads

pub returns-in-Done-clause-falls : goal.returns-in-Done-clause-falls
returns-in-Done-clause-falls c = level_falls (3 * length c.args.self.now.groups.items + 3) (3 * length c.args.self.now.groups.items + 3) (uploads.measure c.args.upload) c.after_upload.result _ (same_level _) c.after_upload.ensures.falls

pub step-requires : goal.step-requires
step-requires c = c.requires.answer
