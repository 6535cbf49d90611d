-- Chunks of a group that were shown, one after another, up to one that sticks out.
use Rattle.std.proofs.Common.{◌≡◌, ℕ, List, [], ◌∷◌, ◌++◌, map, sym, ap, subst, ◌∙◌}
use Rattle.label_sets.specs.declared.sample.Sample.{Sample}
use Rattle.store_chunks.specs.ChunkReads.{Read, read, Glimpse, sticks_out}
use Rattle.store_chunks.specs.ChunksRead.{row_reads, reads_of}
use Rattle.store_chunks.specs.Glimpsed.{glimpse_seen, pending_chunk, shown_first}
use Rattle.store_chunks.specs.declared.glimpse.Glimpse.TheVariants.{Shows, SticksOut}
use Rattle.store_chunks.specs.declared.glimpse.Pending.{Pending}
use Rattle.store_chunks.specs.declared.chunk_row.ChunkRow.{ChunkRow}
use Rattle.store_chunks.proofs.Rows.{reads_push}

module _ (rest more : List Pending) (one : Pending) (all : List ChunkRow) (end : List Read × List (ℕ × Glimpse)) where
  abbrev Stands : List Pending → Type 0
  Stands left = shown_first (map pending_chunk left) (reads_of all) ≡ end

  here : (seen : Glimpse) → rest ≡ one ∷ more → glimpse_seen one.glimpse ≡ seen → Stands rest → shown_first ((one.reference, seen) ∷ map pending_chunk more) (reads_of all) ≡ end
  here seen is shows stands =
      subst (λ (g : Glimpse). shown_first ((one.reference, g) ∷ map pending_chunk more) (reads_of all) ≡ end) shows (subst Stands is stands)

  -- it was shown
  pub shows_more : (samples : List Sample) (added : ChunkRow) (pushed : List ChunkRow) → rest ≡ one ∷ more → one.glimpse ≡ Shows samples → row_reads added ≡ read one.reference samples ∷ [] → pushed ≡ all ++ added ∷ [] → Stands rest
      → shown_first (map pending_chunk more) (reads_of pushed) ≡ end
  shows_more samples added pushed is shows same more_are stands =
      ap (shown_first (map pending_chunk more)) (ap reads_of more_are ∙ reads_push all added ∙ ap (λ (l : List Read). reads_of all ++ l) same)
      ∙ here (glimpse_seen (Shows samples)) is (ap glimpse_seen shows) stands

  -- it sticks out
  pub sticks_there : (len : ℕ) → rest ≡ one ∷ more → one.glimpse ≡ SticksOut len → Stands rest → end ≡ (reads_of all, (one.reference, sticks_out len) ∷ map pending_chunk more)
  sticks_there len is sticks stands = sym (here (glimpse_seen (SticksOut len)) is (ap glimpse_seen sticks) stands)
