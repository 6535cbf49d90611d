use Rattle.std.proofs.Common.{◌≡◌, ◌++◌, take}
use Rattle.std.specs.List.{flat_map, AllByRecursion}
use Rattle.std.specs.Str.{IsUtf8}
use Rattle.journal_records.specs.RecordWritten.{counted}
use Rattle.journal_records.proofs.entries_written.put_names.Given as goal

abbrev pub invariant-loop-name : goal.invariant-loop-name
invariant-loop-name l = (l.out.items ≡ l.initial.out.items ++ flat_map counted (take l.name-index l.names)) × AllByRecursion IsUtf8 (take l.name-index l.names)
