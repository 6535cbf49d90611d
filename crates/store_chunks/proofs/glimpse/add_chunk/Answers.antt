use Rattle.std.proofs.Common.{refl, Vec, Global}
use Rattle.store_ranges.specs.Asking.{query_asked, block_asked}
use Rattle.store_chunks.specs.ChunksRead.{reads_of}
use Rattle.store_chunks.specs.declared.chunk_row.ChunkRow.{ChunkRow}
use Rattle.store_chunks.proofs.GroupShows.{shows_read, shows_waiting, shows_refused, one_waits, none_waits}
use Rattle.store_chunks.proofs.ChunksOn.{tested_as, tested_none, read_as, refused_as}
use Rattle.store_chunks.proofs.glimpse.add_chunk.Goals as goal

pub returns-in_ok-made-in-Some : goal.returns-in_ok-made-in-Some
returns-in_ok-made-in-Some c = λ up. shows_waiting c.args.shown c.in_ok-made-in-Some.made c.args.reference c.in-Some.samples _
    (one_waits c.args.shown.pending.items _ c.is_empty.result c.args.shown.pending.ok.0 c.is_empty.ensures c.if-not-is_empty.true)
    (tested_as (λ samples. samples) (query_asked c.args.asked.now) (block_asked c.args.asked.now) c.args.places.now c.args.reference c.places_of-own.result.now c.args.bytes.now c.in_ok-samples.field-0 c.places_of-own.ensures c.in_ok-samples.ensures c.in-Some.samples c.in-Some.is up)
    c.in_ok-made-in-Some.ensures.0 c.in_ok-made-in-Some.ensures.1

pub returns-in-None : goal.returns-in-None
returns-in-None c = λ up. shows_refused _
    (tested_none (λ samples. samples) (query_asked c.args.asked.now) (block_asked c.args.asked.now) c.args.places.now c.args.reference c.places_of-own.result.now c.args.bytes.now c.in_ok-samples.field-0 c.places_of-own.ensures c.in_ok-samples.ensures c.in-None.is up)

pub returns-in-Some-2 : goal.returns-in-Some-2
returns-in-Some-2 c = λ up. shows_read c.args.shown (record { rows = c.in-Some-2.rows; pending = c.args.shown.pending }) c.args.reference _
    (none_waits c.args.shown.pending.items _ c.is_empty.result c.args.shown.pending.ok.0 c.is_empty.ensures c.if-not-is_empty.false) refl
    (read_as (λ (rows : Vec ChunkRow Global). reads_of rows.items) (query_asked c.args.asked.now) (block_asked c.args.asked.now) c.args.places.now (reads_of c.args.shown.rows.items) c.args.reference c.places_of-own.result.now c.args.bytes.now c.in_ok-rows.field-0 c.places_of-own.ensures c.in_ok-rows.ensures c.in-Some-2.rows c.in-Some-2.is up)

pub returns-in-None-2 : goal.returns-in-None-2
returns-in-None-2 c = λ up. shows_refused _
    (refused_as (λ (rows : Vec ChunkRow Global). reads_of rows.items) (query_asked c.args.asked.now) (block_asked c.args.asked.now) c.args.places.now (reads_of c.args.shown.rows.items) c.args.reference c.places_of-own.result.now c.args.bytes.now c.in_ok-rows.field-0 c.places_of-own.ensures c.in_ok-rows.ensures c.in-None-2.is up)
