use Rattle.std.proofs.Common.{List, Some, Vec, Global, subst}
use Rattle.std.specs.Prelude.{IsErr}
use Rattle.std.specs.List.Sorted.{IsNonDecreasingBy}
use Rattle.index_parts.specs.declared.chunk_place.ChunkPlace.{ChunkPlace}
use Rattle.index_parts.specs.SeriesEntry.{reference_of}
use Rattle.store_ranges.specs.Asking.{query_asked, block_asked}
use Rattle.store_chunks.specs.ChunkReads.{tests_at}
use Rattle.store_chunks.specs.ChunksRead.{reads_of}
use Rattle.store_chunks.specs.Glimpsed.{ReadsOn}
use Rattle.store_chunks.specs.declared.chunk_row.ChunkRow.{ChunkRow}
use Rattle.store_calls.proofs.ChunkPlans.{single_read, single_damaged}
use Rattle.store_chunks.proofs.ChunksOn.{read_as, refused_as}
use Rattle.store_calls.proofs.chunk_steps.take_single.Goals as goal

pub returns-in-None : goal.returns-in-None
returns-in-None c = λ cache.
    single_damaged c.args.asked.now cache c.args.work c.args.reference c.args.pending.items c.args.seq c.args.bytes.now
    (subst (λ (l : List ChunkPlace). IsNonDecreasingBy reference_of l → IsErr (tests_at (query_asked c.args.asked.now) (block_asked c.args.asked.now) l c.args.reference c.args.bytes.now)) c.deref.ensures.value
    (refused_as (λ (rows : Vec ChunkRow Global). reads_of rows.items) (query_asked c.args.asked.now) (block_asked c.args.asked.now) c.deref.result.now (reads_of c.args.work.found.items) c.args.reference c.places_of-own.result.now c.args.bytes.now c.in_ok-found.field-0 c.places_of-own.ensures c.in_ok-found.ensures c.in-None.is))

pub returns-in-Some : goal.returns-in-Some
returns-in-Some c = λ cache.
    single_read c.args.asked.now cache c.args.work c.in-Some.found c.args.reference c.args.pending.items c.args.seq c.args.bytes.now c.go_on_chunks.result
    (subst (λ (l : List ChunkPlace). IsNonDecreasingBy reference_of l → ReadsOn (λ (rows : Vec ChunkRow Global). reads_of rows.items) (reads_of c.args.work.found.items) c.args.reference (tests_at (query_asked c.args.asked.now) (block_asked c.args.asked.now) l c.args.reference c.args.bytes.now) (Some c.in-Some.found)) c.deref.ensures.value
    (read_as (λ (rows : Vec ChunkRow Global). reads_of rows.items) (query_asked c.args.asked.now) (block_asked c.args.asked.now) c.deref.result.now (reads_of c.args.work.found.items) c.args.reference c.places_of-own.result.now c.args.bytes.now c.in_ok-found.field-0 c.places_of-own.ensures c.in_ok-found.ensures c.in-Some.found c.in-Some.is))
    (c.go_on_chunks.ensures cache)
