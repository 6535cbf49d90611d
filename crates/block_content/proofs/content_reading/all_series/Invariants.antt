use Rattle.block_content.proofs.ChunkWalks.{SeriesSoFar}
use Rattle.block_content.proofs.content_reading.all_series.Given as goal

abbrev pub invariant-loop-one : goal.invariant-loop-one
invariant-loop-one l = SeriesSoFar l.segments l.indexed l.one-index l.made l.number
