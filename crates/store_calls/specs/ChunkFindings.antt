-- What the steps of a call find of chunks, as the code has it.
use Rattle.std.specs.Prelude.{◌≡◌, List, [], ◌∷◌, map}
use Rattle.store_chunks.specs.ChunkReads.{sticks_out}
use Rattle.store_chunks.specs.ChunksRead.{reads_of}
use Rattle.store_chunks.specs.Glimpsed.{pending_chunk, shown_first}
use Rattle.store_calls.specs.declared.chunk_steps.Shown.{Shown}
use Rattle.store_calls.specs.declared.chunk_steps.Shown.TheVariants.{SticksOut, All}
use Rattle.store_chunks.specs.declared.glimpse.Pending.{Pending}
use Rattle.store_chunks.specs.declared.chunk_row.ChunkRow.{ChunkRow}

-- the chunks of a group that were shown, up to the first that sticks out, as the code has them
abbrev pub ShowsFirst : List ChunkRow → List Pending → Shown → Type 0
ShowsFirst found chunks (SticksOut all reference len pending) =
    shown_first (map pending_chunk chunks) (reads_of found) ≡ (reads_of all.items, (reference, sticks_out len) ∷ map pending_chunk pending.items)
ShowsFirst found chunks (All all) = shown_first (map pending_chunk chunks) (reads_of found) ≡ (reads_of all.items, [])
