use Rattle.std.proofs.Common.{◌≡◌, ◌++◌, zip}
use Rattle.std.specs.List.{flat_map, AllByRecursion}
use Rattle.std.specs.Iterator.Adapters.{zip_first, zip_second}
use Rattle.std.specs.Slice.Iter.{iter_rest}
use Rattle.index_parts.specs.LabelIndices.{offset_text}
use Rattle.index_writing.proofs.Offsets.{Fits}
use Rattle.index_writing.proofs.list_writing.put_offsets.Given as goal

abbrev pub invariant-loop-name : goal.invariant-loop-name
invariant-loop-name l =
    let left = zip (iter_rest (zip_first l.name-iterator)) (iter_rest (zip_second l.name-iterator)) in
    (l.out.items ++ flat_map offset_text left ≡ l.initial.out.items ++ flat_map offset_text (zip l.names l.offsets)) × (AllByRecursion Fits left → AllByRecursion Fits (zip l.names l.offsets))
