use Rattle.std.proofs.Common.{◌≡◌, ◌++◌, take}
use Rattle.std.specs.List.{flat_map, AllByRecursion}
use Rattle.journal_records.specs.RecordWritten.{entry_text, IsTyped}
use Rattle.journal_records.proofs.entries_written.put_entries.Given as goal

abbrev pub invariant-loop-entry : goal.invariant-loop-entry
invariant-loop-entry l = (l.out.items ≡ l.initial.out.items ++ flat_map entry_text (take l.entry-index l.entries)) × AllByRecursion IsTyped (take l.entry-index l.entries)
