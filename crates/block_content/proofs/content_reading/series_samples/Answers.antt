use Rattle.std.proofs.Common.{refl, ap, length, length-append, arith}
use Rattle.xor_chunks.specs.declared.refusal.XorRefusal.TheVariants as xor
use Rattle.block_content.specs.ContentReading.{chunk_at}
use Rattle.block_content.specs.declared.chunk_cause.ChunkCause.TheVariants.{Data}
use Rattle.block_content.proofs.Appending.{parts_of_whole, refused_either}
use Rattle.block_content.proofs.ChunkWalks.{chunks_start, chunks_step, chunks_stopped}
use Rattle.block_content.proofs.content_reading.series_samples.Goals as goal

pub loop-place-init : goal.loop-place-init
loop-place-init c = chunks_start c.args.segments.now c.args.chunks.now c.new-samples.result.items c.new-samples.ensures.items

pub returns-in-Err-clause-read : goal.returns-in-Err-clause-read
returns-in-Err-clause-read c =
    chunks_stopped c.args.segments.now c.args.chunks.now c.loop-place.place-index _ _ c.loop-place.samples.items c.loop-place.chunk c.args.series c.in-Err.cause c.refused_chunk.result c.loop-place.invariant c.loop-place-test.true refl
    (refused_either c.loop-place.samples.items (chunk_at c.args.segments.now _) (Data xor.NoMemory) c.in-Err.cause c.in-Err.ensures.exact) c.refused_chunk.ensures

pub loop-place-preserved : goal.loop-place-preserved
loop-place-preserved c =
    let read = parts_of_whole c.loop-place.samples.items c.in-Ok.all.items (chunk_at c.args.segments.now _) c.in-Ok.ensures.exact in
    chunks_step c.args.segments.now c.args.chunks.now c.loop-place.place-index _ _ c.loop-place.samples.items c.in-Ok.all.items read.0 c.loop-place.chunk c.saturating_add-chunk.result
    c.loop-place.invariant c.loop-place-test.true refl read.1 read.2
    (omega (arith, ap length read.2, length-append c.loop-place.samples.items read.0, c.in-Ok.ensures.few)) (omega (arith, c.saturating_add-chunk.ensures))
