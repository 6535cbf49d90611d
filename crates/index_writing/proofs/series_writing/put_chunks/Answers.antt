use Rattle.std.proofs.Common.{None, pos, refl}
use Rattle.index_parts.specs.declared.chunk_place.ChunkPlace.{ChunkPlace}
use Rattle.index_parts.specs.SeriesEntry.{chunks_text}
use Rattle.index_writing.proofs.PairLists.{all_take_more}
use Rattle.index_writing.proofs.ChunksWritten.{chunks_more, chunks_all, order_more}
use Rattle.index_writing.proofs.series_writing.put_chunks.Goals as goal

abbrev none : ChunkPlace
none = record { min = pos 0; max = pos 0; segment = 0; offset = 0 }

pub loop-chunk-preserved : goal.loop-chunk-preserved
loop-chunk-preserved c = (
  chunks_more _ _ _ c.loop-chunk-test.true _ c.args.out.now.items _ _ (chunks_text None c.args.chunks.now) c.loop-chunk.invariant.0 c.in_ok-put_chunk.ensures.ok,
  order_more _ _ _ c.loop-chunk-test.true _ c.loop-chunk.invariant.1,
  all_take_more _ _ _ _ _ c.loop-chunk.invariant.2 c.in_ok-put_chunk.ensures.fits refl c.loop-chunk-test.true,
)

pub returns-clause-ok : goal.returns-clause-ok
returns-clause-ok c = chunks_all _ _ _ c.args.out.now.items _ (chunks_text None c.args.chunks.now) c.loop-chunk.invariant.0 c.loop-chunk-test.false
