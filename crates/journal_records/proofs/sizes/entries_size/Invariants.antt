use Rattle.std.proofs.Common.{◌≡◌, ◌-◌, ◌^◌, min, length, sum_by, take}
use Rattle.journal_records.specs.RecordWritten.{entry_text}
use Rattle.journal_records.proofs.sizes.entries_size.Given as goal

abbrev pub invariant-loop-entry : goal.invariant-loop-entry
invariant-loop-entry l = l.size ≡ min (sum_by (λ e. length (entry_text e)) (take l.entry-index l.entries)) (2 ^ 64 - 1)
