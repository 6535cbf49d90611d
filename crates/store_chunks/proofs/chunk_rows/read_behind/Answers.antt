use Rattle.std.proofs.Common.{subst}
use Rattle.store_ranges.specs.Asking.{query_asked, block_asked}
use Rattle.store_chunks.specs.ChunkReads.{chunk_samples_at}
use Rattle.store_chunks.specs.ChunksRead.{row_reads}
use Rattle.store_chunks.specs.Glimpsed.{ReadsOn}
use Rattle.store_chunks.proofs.Rows.{rows_read}
use Rattle.store_chunks.proofs.chunk_rows.read_behind.Goals as goal

pub returns-in_ok-push-in-Some : goal.returns-in_ok-push-in-Some
returns-in_ok-push-in-Some c =
    let row = c.in_ok-row.row in
    let read = subst (ReadsOn row_reads (row_reads row) c.args.reference (chunk_samples_at (query_asked c.args.asked.now) (block_asked c.args.asked.now) c.args.places.now c.args.bytes.now)) c.in-Some.is c.in_ok-row-2.ensures in
    (read.0, read.1, rows_read c.args.rows.items c.row_for.new.rows.items c.push.new.self.items row c.in-Some.row c.args.reference read.0 c.in_ok-row.ensures read.2 c.in_ok-push-in-Some.ensures.items)

pub returns-in-None : goal.returns-in-None
returns-in-None c = subst (ReadsOn row_reads (row_reads c.in_ok-row.row) c.args.reference (chunk_samples_at (query_asked c.args.asked.now) (block_asked c.args.asked.now) c.args.places.now c.args.bytes.now)) c.in-None.is c.in_ok-row-2.ensures
