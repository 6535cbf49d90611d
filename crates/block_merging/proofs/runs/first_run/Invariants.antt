use Rattle.block_merging.proofs.Sweeps.{IsSwept}
use Rattle.block_merging.proofs.runs.first_run.Given as goal

abbrev pub invariant-loop-place : goal.invariant-loop-place
invariant-loop-place l = IsSwept l.chunks l.place l.end
