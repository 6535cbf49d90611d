use Rattle.std.proofs.Common.{◌≡◌, ◌-◌, ◌^◌, min, length, sum_by, take}
use Rattle.journal_records.specs.RecordWritten.{counted}
use Rattle.journal_records.proofs.sizes.names_size.Given as goal

abbrev pub invariant-loop-name : goal.invariant-loop-name
invariant-loop-name l = l.size ≡ min (sum_by (λ name. length (counted name)) (take l.name-index l.names)) (2 ^ 64 - 1)
