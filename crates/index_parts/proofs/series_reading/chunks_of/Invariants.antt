use Rattle.std.proofs.Common.{◌≡◌, None, Some, Ok}
use Rattle.base.specs.Members.{members_at}
use Rattle.index_parts.specs.SeriesReading.{chunk_at}
use Rattle.index_parts.proofs.series_reading.chunks_of.Given as goal

abbrev pub invariant-loop : goal.invariant-loop
invariant-loop l = members_at chunk_at l.counter (None, l.fn.cursor) ≡ Ok (l.chunks.items, (Some l.last, l.cursor))
