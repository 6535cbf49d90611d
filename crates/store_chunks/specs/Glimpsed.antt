-- What the read of a group showed, as the code has it.
use Rattle.std.specs.Prelude.{◌≡◌, ℕ, List, [], ◌∷◌, ◌++◌, map, zip, Option, Some, None, Result, Ok, IsErr}
use Rattle.label_sets.specs.declared.sample.Sample.{Sample}
use Rattle.store_chunks.specs.ChunkReads.{Read, read, Glimpse, shows, sticks_out}
use Rattle.store_chunks.specs.ChunksRead.{reads_of}
use Rattle.store_chunks.specs.declared.glimpse.Glimpse.{Glimpse as Seen}
use Rattle.store_chunks.specs.declared.glimpse.Glimpse.TheVariants.{Shows, SticksOut}
use Rattle.store_chunks.specs.declared.glimpse.Pending.{Pending}
use Rattle.store_chunks.specs.declared.glimpse.GroupShown.{GroupShown}

abbrev pub glimpse_seen : Seen → Glimpse
glimpse_seen (Shows samples) = shows samples
glimpse_seen (SticksOut len) = sticks_out len

abbrev pub pending_chunk : Pending → ℕ × Glimpse
pending_chunk pending = (pending.reference, glimpse_seen pending.glimpse)

-- the chunks of a group that were shown, up to the first that sticks out, behind those that were read before
abbrev pub shown_first : List (ℕ × Glimpse) → List Read → List Read × List (ℕ × Glimpse)
shown_first [] found = (found, [])
shown_first ((reference, shows samples) ∷ chunks) found = shown_first chunks (found ++ read reference samples ∷ [])
shown_first ((reference, sticks_out len) ∷ chunks) found = (found, (reference, sticks_out len) ∷ chunks)

-- the same with one chunk more, which is read at once where none before it sticks out
abbrev pub shows_one : List Read → List (ℕ × Glimpse) → ℕ → Glimpse → List Read × List (ℕ × Glimpse)
shows_one found [] reference (shows samples) = (found ++ read reference samples ∷ [], [])
shows_one found [] reference (sticks_out len) = (found, (reference, sticks_out len) ∷ [])
shows_one found (one ∷ waiting) reference seen = (found, one ∷ (waiting ++ (reference, seen) ∷ []))

-- what was shown of a group, as the code has it
abbrev pub shown_so : GroupShown → List Read × List (ℕ × Glimpse)
shown_so shown = (reads_of shown.rows.items, map pending_chunk shown.pending.items)

-- The chunk at a reference was shown behind others as it was read, or there is a refusal.
abbrev pub ShowsOne : {R : Type 0} → List Read × List (ℕ × Glimpse) → ℕ → Result Glimpse R → Option GroupShown → Type 0
ShowsOne before reference seen (Some shown) = (one : Glimpse) × (seen ≡ Ok one) × (shown_so shown ≡ shows_one before.0 before.1 reference one)
ShowsOne before reference seen None = IsErr seen

-- The chunks at these references were shown behind others as they were read, or there is a refusal.
abbrev pub ShowsGroup : {R : Type 0} → List Read → List ℕ → Result (List Glimpse) R → Option GroupShown → Type 0
ShowsGroup found references seen (Some shown) = (all : List Glimpse) × (seen ≡ Ok all) × (shown_so shown ≡ shown_first (zip references all) found)
ShowsGroup found references seen None = IsErr seen

-- The chunk at a reference was read behind others, or there is a refusal.
abbrev pub ReadsOn : {X R : Type 0} → (X → List Read) → List Read → ℕ → Result (List Sample) R → Option X → Type 0
ReadsOn view before reference tested (Some found) = (samples : List Sample) × (tested ≡ Ok samples) × (view found ≡ before ++ read reference samples ∷ [])
ReadsOn view before reference tested None = IsErr tested
