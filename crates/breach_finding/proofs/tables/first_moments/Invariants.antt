use Rattle.std.proofs.Common.{◌≡◌, ℕ, take}
use Rattle.std.specs.BTreeMap.{get}
use Rattle.std.specs.Ordering.{nat_cmp}
use Rattle.world_core.specs.Journals.{of_seat}
use Rattle.breach_finding.proofs.Compactors.{moment_of_first}
use Rattle.breach_finding.proofs.tables.first_moments.Given as goal

abbrev pub invariant-loop-entry : goal.invariant-loop-entry
invariant-loop-entry l = (seat : ℕ) → get nat_cmp l.begins seat ≡ moment_of_first (of_seat seat (take l.entry-index l.journal))
