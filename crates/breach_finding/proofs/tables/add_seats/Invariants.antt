use Rattle.std.proofs.Common.{◌≡◌, ℕ, drop}
use Rattle.std.specs.BTreeMap.{get}
use Rattle.std.specs.Ordering.{nat_cmp}
use Rattle.breach_finding.specs.Tables.{seated}
use Rattle.breach_finding.proofs.tables.add_seats.Given as goal

-- the workers that are left complete the seats
abbrev pub invariant-loop-worker : goal.invariant-loop-worker
invariant-loop-worker l = (seat : ℕ) → seated (drop l.worker-index l.workers) seat (get nat_cmp l.seats seat) ≡ seated l.workers seat (get nat_cmp l.initial.seats seat)
