use Rattle.std.specs.List.Sorted.{IsNonDecreasingBy}
use Rattle.index_parts.specs.SeriesEntry.{reference_of}
use Rattle.store_ranges.specs.Asking.{query_asked, block_asked}
use Rattle.store_ranges.specs.ToRead.{group_read}
use Rattle.store_chunks.specs.ChunkReads.{tests_at, glimpse_at}
use Rattle.store_chunks.specs.ChunksRead.{reads_of}
use Rattle.store_chunks.proofs.GroupShows.{ShownUpto}
use Rattle.store_chunks.proofs.glimpse.glimpses_at.Given as goal

abbrev pub invariant-loop-reference : goal.invariant-loop-reference
invariant-loop-reference l = IsNonDecreasingBy reference_of l.places → ShownUpto (glimpse_at (tests_at (query_asked l.asked) (block_asked l.asked) l.places) (group_read l.group) l.bytes) l.references (reads_of l.fn.found.items) l.reference-index l.shown
