use Rattle.std.proofs.Common.{map}
use Rattle.store_chunks.specs.ChunksRead.{reads_of}
use Rattle.store_chunks.specs.Glimpsed.{pending_chunk, shown_first}
use Rattle.store_calls.proofs.ShownLoop.{shows_more, sticks_there}
use Rattle.store_calls.proofs.chunk_steps.shown_chunks.Goals as goal

pub returns-in-SticksOut : goal.returns-in-SticksOut
returns-in-SticksOut c =
    sticks_there c.loop-one.pending.items c.pop_front.new.self.items c.in-Some.one c.loop-one.all.items (shown_first (map pending_chunk c.args.chunks.items) (reads_of c.args.found.items)) c.in-SticksOut.len c.in-Some.ensures.items c.in-SticksOut.is c.loop-one.invariant

pub loop-one-preserved : goal.loop-one-preserved
loop-one-preserved c =
    shows_more c.loop-one.pending.items c.pop_front.new.self.items c.in-Some.one c.loop-one.all.items (shown_first (map pending_chunk c.args.chunks.items) (reads_of c.args.found.items)) c.in-Shows.samples c.in_ok-row_of_one-in-Shows.field-0 c.push.new.self.items
    c.in-Some.ensures.items c.in-Shows.is c.in_ok-row_of_one-in-Shows.ensures c.in_ok-push-in-Shows.ensures.items c.loop-one.invariant
