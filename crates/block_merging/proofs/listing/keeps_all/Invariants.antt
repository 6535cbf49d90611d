use Rattle.block_merging.proofs.WholeListing.{KeptSoFar}
use Rattle.block_merging.proofs.listing.keeps_all.Given as goal

abbrev pub invariant-loop-label : goal.invariant-loop-label
invariant-loop-label l = KeptSoFar l.labels l.external l.replicas l.label-index
