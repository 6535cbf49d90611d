use Rattle.std.proofs.Common.{◌≡◌, ◌++◌}
use Rattle.std.specs.Iterator.Adapters.{zip_first, zip_second}
use Rattle.std.specs.Slice.Iter.{iter_rest}
use Rattle.index_writing.specs.LabelGroups.{all_entries}
use Rattle.index_writing.proofs.label_groups.entries_of.Given as goal

abbrev pub invariant-loop-one : goal.invariant-loop-one
invariant-loop-one l = l.entries.items ++ all_entries (iter_rest (zip_first l.one-iterator)) (iter_rest (zip_second l.one-iterator)) ≡ all_entries l.series l.numbers
