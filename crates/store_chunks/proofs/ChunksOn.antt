-- What the steps of a call find of chunks, by the places as they are lent.
use Rattle.std.proofs.Common.{◌≡◌, ℕ, List, subst, Option, Some, None, Ok}
use Rattle.std.specs.Prelude.{IsErr}
use Rattle.std.specs.List.Sorted.{IsNonDecreasingBy}
use Rattle.label_sets.specs.declared.sample.Sample.{Sample}
use Rattle.index_parts.specs.declared.chunk_place.ChunkPlace.{ChunkPlace}
use Rattle.index_parts.specs.SeriesEntry.{reference_of}
use Rattle.base.specs.Firsts.{each_at}
use Rattle.store_ranges.specs.ChunkRanges.{Group}
use Rattle.store_ranges.specs.Reads.{Query, Block}
use Rattle.store_chunks.specs.ChunkReads.{Read, glimpse_at, tests_at, places_at, chunk_samples_at}
use Rattle.store_ranges.specs.Findings.{ReadsAs}
use Rattle.store_chunks.specs.Glimpsed.{ShowsGroup, ReadsOn}
use Rattle.store_chunks.specs.declared.glimpse.GroupShown.{GroupShown}

module _ (query : Query) (block : Block) (group : Group) (bytes references : List ℕ) (given places : List ChunkPlace) (before : List Read) (found : Option GroupShown) where
  abbrev Seen : List ChunkPlace → Option GroupShown → Type 0
  Seen there one = IsNonDecreasingBy reference_of there → ShowsGroup before references (each_at (glimpse_at (tests_at query block there) group bytes) references) one

  pub shown_as : (shown : GroupShown) → given ≡ places → found ≡ Some shown → Seen given found → Seen places (Some shown)
  shown_as shown same is seen = subst (Seen places) is (subst (λ (l : List ChunkPlace). Seen l found) same seen)

  pub refused_as_seen : given ≡ places → found ≡ None → Seen given found
      → IsNonDecreasingBy reference_of places → IsErr (each_at (glimpse_at (tests_at query block places) group bytes) references)
  refused_as_seen same is seen = subst (Seen places) is (subst (λ (l : List ChunkPlace). Seen l found) same seen)

-- the places of a reference, and the chunk there, which was read behind others
module _ {S : Type 0} (view : S → List Read) (query : Query) (block : Block) (places : List ChunkPlace) (before : List Read) (reference : ℕ) (lent : List ChunkPlace) (bytes : List ℕ) (found : Option S) (there : IsNonDecreasingBy reference_of places → lent ≡ places_at places reference)
    (tested : ReadsOn view before reference (chunk_samples_at query block lent bytes) found) where
  pub read_as : (all : S) → found ≡ Some all → IsNonDecreasingBy reference_of places → ReadsOn view before reference (tests_at query block places reference bytes) (Some all)
  read_as all is up =
      subst (λ (l : List ChunkPlace). ReadsOn view before reference (chunk_samples_at query block l bytes) (Some all)) (there up) (subst (ReadsOn view before reference (chunk_samples_at query block lent bytes)) is tested)

  pub refused_as : found ≡ None → IsNonDecreasingBy reference_of places → IsErr (tests_at query block places reference bytes)
  refused_as is up = subst (λ (l : List ChunkPlace). IsErr (chunk_samples_at query block l bytes)) (there up) (subst (ReadsOn view before reference (chunk_samples_at query block lent bytes)) is tested)

-- the places of a reference, and the samples of the chunk there
module _ {S : Type 0} (view : S → List Sample) (query : Query) (block : Block) (places : List ChunkPlace) (reference : ℕ) (lent : List ChunkPlace) (bytes : List ℕ) (found : Option S) (there : IsNonDecreasingBy reference_of places → lent ≡ places_at places reference)
    (read : ReadsAs view (chunk_samples_at query block lent bytes) found) where
  pub tested_as : (samples : S) → found ≡ Some samples → IsNonDecreasingBy reference_of places → tests_at query block places reference bytes ≡ Ok (view samples)
  tested_as samples is up =
      subst (λ (l : List ChunkPlace). chunk_samples_at query block l bytes ≡ Ok (view samples)) (there up) (subst (ReadsAs view (chunk_samples_at query block lent bytes)) is read)

  pub tested_none : found ≡ None → IsNonDecreasingBy reference_of places → IsErr (tests_at query block places reference bytes)
  tested_none is up = subst (λ (l : List ChunkPlace). IsErr (chunk_samples_at query block l bytes)) (there up) (subst (ReadsAs view (chunk_samples_at query block lent bytes)) is read)
