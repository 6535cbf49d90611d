use Rattle.std.proofs.Common.{◌≤◌, length}
use Rattle.compactor.specs.Jobs.{Skips}
use Rattle.compactor.proofs.job.next_job.Given as goal

abbrev pub invariant-loop-group : goal.invariant-loop-group
invariant-loop-group l = record { skips : Skips l.initial.groups.items l.groups.items; fewer : length l.groups.items ≤ length l.initial.groups.items }

abbrev pub decreases-loop-group : goal.decreases-loop-group
decreases-loop-group l = length l.groups.items
