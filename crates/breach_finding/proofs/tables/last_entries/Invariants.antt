use Rattle.std.proofs.Common.{◌≡◌, ℕ, take, None, option_map}
use Rattle.std.specs.BTreeMap.{get}
use Rattle.std.specs.List.{last_or}
use Rattle.std.specs.Ordering.{nat_cmp}
use Rattle.world_core.specs.Journals.{of_seat}
use Rattle.breach_finding.proofs.tables.last_entries.Given as goal

abbrev pub invariant-loop-entry : goal.invariant-loop-entry
invariant-loop-entry l = (seat : ℕ) → get nat_cmp l.lasts seat ≡ option_map (λ e. e.seq) (last_or None (of_seat seat (take l.entry-index l.journal)))
