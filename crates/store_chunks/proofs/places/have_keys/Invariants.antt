use Rattle.std.proofs.Common.{◌≡◌, ◌*◌, ◌^◌, ◌<◌, true, take}
use Rattle.std.specs.Prelude.{All}
use Rattle.index_parts.specs.SeriesEntry.{reference_of}
use Rattle.store_chunks.specs.ChunkReads.{have_keys}
use Rattle.store_chunks.proofs.places.have_keys.Given as goal

abbrev pub invariant-loop-place : goal.invariant-loop-place
invariant-loop-place l =
    (have_keys (take l.place-index l.places) ≡ true) × All (λ place. reference_of place < 999_999 * 2 ^ 32) (take l.place-index l.places)
