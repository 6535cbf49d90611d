use Rattle.std.proofs.Common.{◌≡◌, take}
use Rattle.std.specs.Prelude.{count_by}
use Rattle.run_messages.specs.Actors.{is_clock}
use Rattle.run_messages.proofs.actors.clock_count.Given as goal

abbrev pub invariant-loop-entry : goal.invariant-loop-entry
invariant-loop-entry l = l.count ≡ count_by (λ e. is_clock e.op) (take l.entry-index l.entries)
