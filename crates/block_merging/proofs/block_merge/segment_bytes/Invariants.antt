use Rattle.std.proofs.Common.{◌≤◌, length, take, sum_by}
use Rattle.block_merging.proofs.block_merge.segment_bytes.Given as goal

abbrev pub invariant-loop-block : goal.invariant-loop-block
invariant-loop-block l = l.bytes ≤ sum_by (λ block. sum_by length block.segments) (take l.block-index l.inputs)
