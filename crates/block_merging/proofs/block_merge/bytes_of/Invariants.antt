use Rattle.std.proofs.Common.{◌≤◌, length, take, sum_by}
use Rattle.block_merging.proofs.block_merge.bytes_of.Given as goal

abbrev pub invariant-loop-segment : goal.invariant-loop-segment
invariant-loop-segment l = l.bytes ≤ sum_by length (take l.segment-index l.segments)
