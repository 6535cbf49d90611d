use Rattle.std.proofs.Common.{false}
use Rattle.world_core.specs.Turning.{Turned}
use Rattle.tests_runs.proofs.threads.job.CallsJob.run.Given as goal

abbrev pub invariant-loop-place : goal.invariant-loop-place
invariant-loop-place g l = let hand = g.H.Hand in Turned hand.told hand.keeps l.fn.hand l.hand false false
