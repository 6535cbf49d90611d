use Rattle.std.proofs.Common.{◌≡◌, Ok}
use Rattle.base.specs.Members.{members_at}
use Rattle.journal_records.specs.FieldReading.{text_at}
use Rattle.journal_records.proofs.fields.texts_of.Given as goal

-- so many texts were read
abbrev pub invariant-loop : goal.invariant-loop
invariant-loop l = members_at text_at l.counter l.fn.reader ≡ Ok (l.texts, l.reader)
