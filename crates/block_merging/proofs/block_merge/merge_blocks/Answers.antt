use Rattle.block_merging.proofs.StoredInputs.{left_stored}
use Rattle.block_merging.proofs.MergeAnswers.{test_stopped, memory_stopped, merge_ended}
use Rattle.block_merging.proofs.block_merge.merge_blocks.Goals as goal

pub merged_writer-requires-clause-stored : goal.merged_writer-requires-clause-stored
merged_writer-requires-clause-stored c = left_stored c.args.plan.now c.args.replicas.now c.args.inputs.now c.in_ok-queues.queues.items c.requires c.in_ok-queues.ensures.tested.held c.in_ok-queues.ensures.has

pub merged_writer-requires-clause-queues : goal.merged_writer-requires-clause-queues
merged_writer-requires-clause-queues c = c.in_ok-queues.ensures.has.each

pub merged_writer-requires-clause-rise : goal.merged_writer-requires-clause-rise
merged_writer-requires-clause-rise c = c.in_ok-queues.ensures.has.rise

pub returns-in_err-queues : goal.returns-in_err-queues
returns-in_err-queues c =
    let a = test_stopped c.args.plan.now c.args.replicas.now c.args.inputs.now c.from_residual.result c.in_err-queues.field-0.0 c.from_residual.ensures.1 c.in_err-queues.ensures.tested.refused c.in_err-queues.ensures.tested.only c.in_err-queues.ensures.tested.refuses in
    record { merged = a.merged; refused = a.refused; refuses = a.refuses; too_large = a.too_large; large = a.large }

pub returns-in_err-writer : goal.returns-in_err-writer
returns-in_err-writer c =
    let a = memory_stopped c.args.plan.now c.args.replicas.now c.args.inputs.now c.from_residual-in_err-writer.result c.from_residual-in_err-writer.ensures.1 in
    record { merged = a.merged; refused = a.refused; refuses = a.refuses; too_large = a.too_large; large = a.large }

pub returns : goal.returns
returns c =
    let a = merge_ended c.args.plan.now c.args.replicas.now c.args.inputs.now c.finish.result c.in_ok-queues.queues c.in_ok-queues.queues.items c.in_ok-writer.writer c.requires c.in_ok-queues.ensures.tested.refuses c.in_ok-queues.ensures.tested.held
    c.in_ok-queues.ensures.has c.in_ok-writer.ensures c.finish.ensures.written c.finish.ensures.refused c.finish.ensures.refuses in
    record { merged = a.merged; refused = a.refused; refuses = a.refuses; too_large = a.too_large; large = a.large }
