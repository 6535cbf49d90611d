use Rattle.store_chunks.proofs.OneChunk.{no_chunk}
use Rattle.store_chunks.proofs.ChunkBehind.{data_behind, data_stops}
use Rattle.store_chunks.proofs.chunks.append_data.Goals as goal

pub returns-in-Err : goal.returns-in-Err
returns-in-Err c = no_chunk c.args.bytes.now _ c.in-Err.ensures.exact

pub returns-in-Ok-append_stored : goal.returns-in-Ok-append_stored
returns-in-Ok-append_stored c = data_behind c.args.samples.items c.in-Ok-append_stored.all.items c.args.bytes.now _ c.in-Ok.ensures.exact c.in-Ok-append_stored.ensures.exact

pub returns-else-wants_memory : goal.returns-else-wants_memory
returns-else-wants_memory c = data_stops c.args.samples.items c.args.bytes.now _ c.in-Err-append_stored.refusal c.wants_memory.result c.in-Ok.ensures.exact c.wants_memory.ensures c.if-wants_memory.false c.in-Err-append_stored.ensures.exact
