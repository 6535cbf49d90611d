use Rattle.std.proofs.Common.{◌≡◌, ◌++◌, zip}
use Rattle.std.specs.List.{flat_map}
use Rattle.std.specs.Iterator.Adapters.{zip_first, zip_second}
use Rattle.std.specs.Slice.Iter.{iter_rest}
use Rattle.index_parts.specs.SeriesEntry.{label_text}
use Rattle.index_writing.proofs.series_writing.put_labels.Given as goal

abbrev pub invariant-loop-name : goal.invariant-loop-name
invariant-loop-name l = l.out.items ++ flat_map label_text (zip (iter_rest (zip_first l.name-iterator)) (iter_rest (zip_second l.name-iterator))) ≡ l.initial.out.items ++ flat_map label_text (zip l.names l.values)
