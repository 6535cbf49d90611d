use Rattle.block_content.proofs.ChunkWalks.{one_made}
use Rattle.block_content.proofs.content_reading.series_of.Goals as goal

pub returns-clause-read : goal.returns-clause-read
returns-clause-read c = one_made c.args.segments.now c.args.one.now c.chunks.result.now c.in_ok-set_of.field-0 _ c.from_vec.result c.in_ok-samples.samples.items c.chunks.ensures c.in_ok-set_of.ensures c.labels.ensures.value c.from_vec.ensures c.in_ok-samples.ensures.read
