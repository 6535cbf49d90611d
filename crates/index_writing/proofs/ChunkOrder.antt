-- Chunks that are tested one after another.
use Rattle.std.proofs.Common.{◌≡◌, ℕ, ◌+◌, ◌<◌, ◌≤◌, List, length, get_or, drop, Option, Some, sym, subst}
use Rattle.std.proofs.lemmas.List.{drop_all}
use Rattle.index_parts.specs.declared.chunk_place.ChunkPlace.{ChunkPlace}
use Rattle.index_parts.specs.Turns.{InOrderAfter, InOrder}
use Rattle.index_parts.specs.SeriesEntry.{StartsAfter}
use Rattle.index_writing.proofs.Walks.{front_is}

-- all chunks are in order exactly where those that are left are
pub record IsLeft (chunks : List ChunkPlace) (before : Option ChunkPlace) (i : ℕ) : Type 0 where
  pub all : InOrderAfter StartsAfter before (drop i chunks) → InOrder StartsAfter chunks
  pub left : InOrder StartsAfter chunks → InOrderAfter StartsAfter before (drop i chunks)

pub step : (chunks : List ChunkPlace) (before : Option ChunkPlace) (i : ℕ) (x d : ChunkPlace) → IsLeft chunks before i → i < length chunks → x ≡ get_or chunks i d → StartsAfter before x → IsLeft chunks (Some x) (i + 1)
step _ before i x d so_far lt at starts = record {
  all = λ others. so_far.all (subst (InOrderAfter StartsAfter before) (sym (front_is _ i x d lt at)) (starts, others));
  left = λ whole. (subst (InOrderAfter StartsAfter before) (front_is _ i x d lt at) (so_far.left whole)).1;
}

pub stop : (chunks : List ChunkPlace) (before : Option ChunkPlace) (i : ℕ) (x d : ChunkPlace) → IsLeft chunks before i → i < length chunks → x ≡ get_or chunks i d → (StartsAfter before x → ⊥) → InOrder StartsAfter chunks → ⊥
stop _ before i x d so_far lt at not_starts whole = not_starts (subst (InOrderAfter StartsAfter before) (front_is _ i x d lt at) (so_far.left whole)).0

pub end : (chunks : List ChunkPlace) (before : Option ChunkPlace) (i : ℕ) → IsLeft chunks before i → length chunks ≤ i → InOrder StartsAfter chunks
end _ before i so_far past = so_far.all (subst (InOrderAfter StartsAfter before) (sym (drop_all i _ past)) tt)
