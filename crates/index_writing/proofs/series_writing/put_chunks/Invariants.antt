use Rattle.std.proofs.Common.{◌≡◌, ◌++◌, take, drop, None}
use Rattle.std.specs.List.{AllByRecursion}
use Rattle.index_parts.specs.Turns.{InOrderAfter}
use Rattle.index_parts.specs.SeriesEntry.{StartsAfter, FitsTypes, chunks_text}
use Rattle.index_writing.proofs.series_writing.put_chunks.Given as goal

abbrev pub invariant-loop-chunk : goal.invariant-loop-chunk
invariant-loop-chunk l =
    (l.out.items ++ chunks_text l.before (drop l.chunk-index l.chunks) ≡ l.initial.out.items ++ chunks_text None l.chunks) × InOrderAfter StartsAfter l.before (drop l.chunk-index l.chunks) × AllByRecursion FitsTypes (take l.chunk-index l.chunks)
