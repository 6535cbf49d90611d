use Rattle.std.proofs.Common.{◌≡◌, ◌++◌, map, take, filter}
use Rattle.index_parts.specs.SeriesEntry.{reference_of}
use Rattle.store_ranges.specs.ChunkRanges.{meets}
use Rattle.store_chunks.specs.RowsFit.{row_names}
use Rattle.store_chunks.proofs.row_shown.are_chunks.Given as goal

abbrev pub invariant-loop-place : goal.invariant-loop-place
invariant-loop-place l = row_names l.row ≡ map reference_of (filter (meets l.asked.low l.asked.high) (take l.place-index l.places)) ++ row_names l.left
