use Rattle.std.proofs.Common.{◌≡◌, length, map}
use Rattle.store_chunks.specs.ChunksRead.{reads_of}
use Rattle.store_chunks.specs.Glimpsed.{pending_chunk, shown_first}
use Rattle.store_calls.proofs.chunk_steps.shown_chunks.Given as goal

abbrev pub invariant-loop-one : goal.invariant-loop-one
invariant-loop-one l = shown_first (map pending_chunk l.pending.items) (reads_of l.all.items) ≡ shown_first (map pending_chunk l.fn.chunks.items) (reads_of l.fn.found.items)

abbrev pub decreases-loop-one : goal.decreases-loop-one
decreases-loop-one l = length l.pending.items
