use Rattle.std.proofs.Common.{◌≡◌, ◌+◌, Ok}
use Rattle.base.specs.Members.{members_at}
use Rattle.journal_records.specs.RecordReading.{turn_at}
use Rattle.journal_records.proofs.entries.entries_of.Given as goal

-- so many entries were read
abbrev pub invariant-loop-place : goal.invariant-loop-place
invariant-loop-place l = members_at turn_at l.place (l.fn.reader, 1) ≡ Ok (l.entries, (l.reader, l.place + 1))
