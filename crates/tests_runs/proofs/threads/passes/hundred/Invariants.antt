use Rattle.std.proofs.Common.{◌≡◌}
use Rattle.world_turn.specs.Passes.{table_of}
use Rattle.tests_runs.proofs.threads.passes.hundred.Given as goal

-- it is the same pass
abbrev pub invariant-loop-place : goal.invariant-loop-place
invariant-loop-place g l = (table_of l.last ≡ table_of l.fn.pass) × (l.last.seat ≡ l.fn.pass.seat)
