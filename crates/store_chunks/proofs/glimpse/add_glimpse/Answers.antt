use Rattle.std.proofs.Common.{arith}
use Rattle.store_ranges.specs.Asking.{query_asked, block_asked}
use Rattle.store_ranges.specs.ToRead.{group_read}
use Rattle.store_chunks.specs.ChunkReads.{tests_at}
use Rattle.store_chunks.specs.Glimpsed.{shown_so}
use Rattle.store_chunks.proofs.GroupShows.{none_measured, out_measured, within_measured}
use Rattle.store_chunks.proofs.glimpse.add_glimpse.Goals as goal

pub returns-in-None : goal.returns-in-None
returns-in-None c = λ up. none_measured (tests_at (query_asked c.args.asked.now) (block_asked c.args.asked.now) c.args.places.now) (group_read c.args.group.now) c.args.bytes.now c.args.reference c.saturating_sub-at.result c.chunk_len.result
    c.saturating_sub-at.ensures c.chunk_len.ensures.value c.in-None.is

pub returns-then-at-len : goal.returns-then-at-len
returns-then-at-len c = λ up. out_measured (tests_at (query_asked c.args.asked.now) (block_asked c.args.asked.now) c.args.places.now) (group_read c.args.group.now) c.args.bytes.now c.args.reference c.saturating_sub-at.result c.chunk_len.result
    c.saturating_sub-at.ensures c.chunk_len.ensures.value c.in-Some.len c.in-Some.is c.args.shown c.in_ok-made.made (omega (arith, c.if-at-len.true)) c.in_ok-made.ensures.0 c.in_ok-made.ensures.1

pub returns : goal.returns
returns c = λ up. within_measured (tests_at (query_asked c.args.asked.now) (block_asked c.args.asked.now) c.args.places.now) (group_read c.args.group.now) c.args.bytes.now c.args.reference c.saturating_sub-at.result c.chunk_len.result
    c.saturating_sub-at.ensures c.chunk_len.ensures.value c.in-Some.len c.in-Some.is (shown_so c.args.shown) c.members_behind-rest.result.now c.add_chunk.result (omega (arith, c.if-at-len.false)) c.members_behind-rest.ensures (c.add_chunk.ensures up)
