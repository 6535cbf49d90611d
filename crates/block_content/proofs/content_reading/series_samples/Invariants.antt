use Rattle.block_content.proofs.ChunkWalks.{ChunksSoFar}
use Rattle.block_content.proofs.content_reading.series_samples.Given as goal

abbrev pub invariant-loop-place : goal.invariant-loop-place
invariant-loop-place l = ChunksSoFar l.segments l.chunks l.place-index l.samples.items l.chunk
