use Rattle.std.proofs.Common.{◌≡◌, ◌||◌, ℕ, drop}
use Rattle.std.specs.BTreeSet.{contains}
use Rattle.std.specs.Ordering.{nat_cmp}
use Rattle.breach_finding.specs.Tables.{compacts_among}
use Rattle.breach_finding.proofs.tables.add_compactors.Given as goal

-- the workers that are left complete the seats
abbrev pub invariant-loop-worker : goal.invariant-loop-worker
invariant-loop-worker l = (seat : ℕ) → (contains nat_cmp l.compactors seat || compacts_among l.tasks seat (drop l.worker-index l.workers)) ≡ (contains nat_cmp l.initial.compactors seat || compacts_among l.tasks seat l.workers)
