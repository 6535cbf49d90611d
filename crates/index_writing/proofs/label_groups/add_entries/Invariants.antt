use Rattle.std.proofs.Common.{◌≡◌, ◌++◌}
use Rattle.std.specs.Iterator.Adapters.{zip_first, zip_second}
use Rattle.std.specs.Slice.Iter.{iter_rest}
use Rattle.index_writing.proofs.Entries.{labels_with}
use Rattle.index_writing.proofs.label_groups.add_entries.Given as goal

abbrev pub invariant-loop-name : goal.invariant-loop-name
invariant-loop-name l = l.entries.items ++ labels_with l.series (iter_rest (zip_first l.name-iterator)) (iter_rest (zip_second l.name-iterator)) ≡ l.initial.entries.items ++ labels_with l.series l.names l.values
