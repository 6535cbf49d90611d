use Rattle.block_merging.proofs.QueueSteps.{ListedSoFar}
use Rattle.block_merging.proofs.listing.listed_series.Given as goal

abbrev pub invariant-loop-place : goal.invariant-loop-place
invariant-loop-place l = ListedSoFar l.external l.replicas l.numbers l.indexed l.place l.made.items
