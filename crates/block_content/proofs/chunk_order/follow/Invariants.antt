use Rattle.block_content.proofs.Findings.{FollowSoFar}
use Rattle.block_content.proofs.chunk_order.follow.Given as goal

abbrev pub invariant-loop-chunk : goal.invariant-loop-chunk
invariant-loop-chunk l = FollowSoFar l.chunks l.before l.chunk-index
