-- References to chunks in segments that have keys.
use Rattle.std.proofs.Common.{◌≡◌, ℕ, ◌+◌, ◌*◌, ◌^◌, ◌<◌, Bool, true, ◌&&◌, List, map, take, length, get_or, sym, ap₂, subst, ◌∙◌}
use Rattle.std.specs.Prelude.{All, nat_lt}
use Rattle.std.proofs.lemmas.List.Elements.{All-from_recursion, recursion_from_All, All-push}
use Rattle.std.proofs.lemmas.List.Folds.{list_all_more}
use Rattle.std.proofs.lemmas.List.{take_more}
use Rattle.base.proofs.Membership.{each_member, all_members, of_map}
use Rattle.index_parts.specs.declared.chunk_place.ChunkPlace.{ChunkPlace}
use Rattle.index_parts.specs.SeriesEntry.{reference_of}
use Rattle.store_ranges.specs.ChunkRanges.{IsSetOf}
use Rattle.store_chunks.specs.ChunkReads.{have_keys}

pub small_references : (places : List ChunkPlace) (references : List ℕ) (most : ℕ) → IsSetOf (map reference_of places) references
    → All (λ place. reference_of place < most) places → All (λ r. r < most) references
small_references places references most set small =
    All-from_recursion (λ r. r < most) references (all_members (λ r. r < most) references (λ r within.
    let from = of_map reference_of places r ((set.members r).0 within) in
    subst (λ n. n < most) from.2 (each_member (λ place. reference_of place < most) places from.0 (recursion_from_All (λ place. reference_of place < most) places small) from.1)))

-- one place more
abbrev IsSmall : ChunkPlace → Type 0
IsSmall place = reference_of place < 999_999 * 2 ^ 32

pub keys_more : (places : List ChunkPlace) (i : ℕ) (d : ChunkPlace) → i < length places → have_keys (take i places) ≡ true → All IsSmall (take i places)
    → nat_lt (get_or places i d).segment 999_999 ≡ true → IsSmall (get_or places i d) → (have_keys (take (i + 1) places) ≡ true) × All IsSmall (take (i + 1) places)
keys_more places i d within have small one here = (
  list_all_more (λ (place : ChunkPlace). nat_lt place.segment 999_999) places i d within ∙ ap₂ (λ (a b : Bool). a && b) have one,
  subst (All IsSmall) (sym (take_more places i d within)) (All-push IsSmall (take i places) (get_or places i d) small here),
)
