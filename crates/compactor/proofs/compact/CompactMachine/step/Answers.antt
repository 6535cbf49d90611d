use Rattle.std.proofs.Common.{sym, ◌∙◌}
use Rattle.compactor.specs.declared.stage.Stage.TheVariants.{Syncing, Reading, Uploading, Marking}
use Rattle.compactor.proofs.CompactCounts.{stage_falls}
use Rattle.compactor.proofs.CompactSteps.{compact_steps, asked_in, answer_in}
use Rattle.compactor.proofs.compact.CompactMachine.step.Goals as goal

pub step_sync-requires : goal.step_sync-requires
step_sync-requires c = record { answer = answer_in (Syncing c.in-Syncing.sync) c.args.self.now c.args.seen (sym c.replace-stage.ensures.value ∙ c.in-Syncing.is) c.requires }

pub returns-in-Syncing-clause-goes_on : goal.returns-in-Syncing-clause-goes_on
returns-in-Syncing-clause-goes_on c = λ seat op asks.
    compact_steps (Syncing c.in-Syncing.sync) c.args.self.now c.step_sync.new.self c.step_sync.result (sym c.replace-stage.ensures.value ∙ c.in-Syncing.is) seat op c.args.seen asks (c.step_sync.ensures.goes_on seat op (asked_in (Syncing c.in-Syncing.sync) c.args.self.now op (sym c.replace-stage.ensures.value ∙ c.in-Syncing.is) asks))

pub returns-in-Syncing-clause-falls : goal.returns-in-Syncing-clause-falls
returns-in-Syncing-clause-falls c = stage_falls (Syncing c.in-Syncing.sync) c.args.self.now c.step_sync.result _ (sym c.replace-stage.ensures.value ∙ c.in-Syncing.is) c.step_sync.ensures.falls

pub step_marks-requires : goal.step_marks-requires
step_marks-requires c = record { answer = answer_in (Marking c.in-Marking.reason c.in-Marking.marks) c.args.self.now c.args.seen (sym c.replace-stage.ensures.value ∙ c.in-Marking.is) c.requires }

pub returns-in-Marking-clause-goes_on : goal.returns-in-Marking-clause-goes_on
returns-in-Marking-clause-goes_on c = λ seat op asks.
    compact_steps (Marking c.in-Marking.reason c.in-Marking.marks) c.args.self.now c.step_marks.new.self c.step_marks.result (sym c.replace-stage.ensures.value ∙ c.in-Marking.is) seat op c.args.seen asks (c.step_marks.ensures.goes_on seat op (asked_in (Marking c.in-Marking.reason c.in-Marking.marks) c.args.self.now op (sym c.replace-stage.ensures.value ∙ c.in-Marking.is) asks))

pub returns-in-Marking-clause-falls : goal.returns-in-Marking-clause-falls
returns-in-Marking-clause-falls c = stage_falls (Marking c.in-Marking.reason c.in-Marking.marks) c.args.self.now c.step_marks.result _ (sym c.replace-stage.ensures.value ∙ c.in-Marking.is) c.step_marks.ensures.falls

pub step_reads-requires : goal.step_reads-requires
step_reads-requires c = record { answer = answer_in (Reading c.in-Reading.reads c.in-Reading.labels c.in-Reading.parents) c.args.self.now c.args.seen (sym c.replace-stage.ensures.value ∙ c.in-Reading.is) c.requires }

pub returns-in-Reading-clause-goes_on : goal.returns-in-Reading-clause-goes_on
returns-in-Reading-clause-goes_on c = λ seat op asks.
    compact_steps (Reading c.in-Reading.reads c.in-Reading.labels c.in-Reading.parents) c.args.self.now c.step_reads.new.self c.step_reads.result (sym c.replace-stage.ensures.value ∙ c.in-Reading.is) seat op c.args.seen asks (c.step_reads.ensures.goes_on seat op (asked_in (Reading c.in-Reading.reads c.in-Reading.labels c.in-Reading.parents) c.args.self.now op (sym c.replace-stage.ensures.value ∙ c.in-Reading.is) asks))

pub returns-in-Reading-clause-falls : goal.returns-in-Reading-clause-falls
returns-in-Reading-clause-falls c = stage_falls (Reading c.in-Reading.reads c.in-Reading.labels c.in-Reading.parents) c.args.self.now c.step_reads.result _ (sym c.replace-stage.ensures.value ∙ c.in-Reading.is) c.step_reads.ensures.falls

pub step_upload-requires : goal.step_upload-requires
step_upload-requires c = record { answer = answer_in (Uploading c.in-Uploading.upload c.in-Uploading.parents) c.args.self.now c.args.seen (sym c.replace-stage.ensures.value ∙ c.in-Uploading.is) c.requires }

pub returns-in-Uploading-clause-goes_on : goal.returns-in-Uploading-clause-goes_on
returns-in-Uploading-clause-goes_on c = λ seat op asks.
    compact_steps (Uploading c.in-Uploading.upload c.in-Uploading.parents) c.args.self.now c.step_upload.new.self c.step_upload.result (sym c.replace-stage.ensures.value ∙ c.in-Uploading.is) seat op c.args.seen asks (c.step_upload.ensures.goes_on seat op (asked_in (Uploading c.in-Uploading.upload c.in-Uploading.parents) c.args.self.now op (sym c.replace-stage.ensures.value ∙ c.in-Uploading.is) asks))

pub returns-in-Uploading-clause-falls : goal.returns-in-Uploading-clause-falls
returns-in-Uploading-clause-falls c = stage_falls (Uploading c.in-Uploading.upload c.in-Uploading.parents) c.args.self.now c.step_upload.result _ (sym c.replace-stage.ensures.value ∙ c.in-Uploading.is) c.step_upload.ensures.falls
