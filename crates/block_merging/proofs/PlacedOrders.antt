-- The orders of chunks by their begins and by their places.
use Rattle.std.proofs.Common.{◌≡◌, ℕ, zero, suc, ◌+◌, ◌<◌, true, List, [], ◌∷◌, ◌++◌, length, take, get_or, map, refl, sym, ap, ◌∙◌, arith}
use Rattle.std.specs.Cmp.{IsStrictWeakOrder}
use Rattle.std.specs.List.{AllByRecursion}
use Rattle.std.specs.Ordering.{nat_cmp}
use Rattle.std.proofs.lemmas.Cmp.{int_cmp_total, nat_cmp_total}
use Rattle.std.proofs.lemmas.List.Sorted.{ranks_by}
use Rattle.base.proofs.Bools.{nat_cmp-Less, is_lt-from_Less}
use Rattle.block_merging.specs.declared.input_chunk.InputChunk.{InputChunk}
use Rattle.block_merging.specs.declared.placed_chunk.PlacedChunk.{PlacedChunk}
use Rattle.block_merging.specs.Placed.{chunk_of, placed_chunk, placed_from, begins_before, stands_before}
use Rattle.block_merging.proofs.Filters.{Ascends}

pub begins_ranked : IsStrictWeakOrder begins_before
begins_ranked = ranks_by int_cmp_total (λ (s : PlacedChunk). s.chunk.min)

pub stands_ranked : IsStrictWeakOrder stands_before
stands_ranked = ranks_by nat_cmp_total (λ (s : PlacedChunk). s.place)

-- places that are counted ascend
later_places : (place next : ℕ) (chunk : InputChunk) (chunks : List InputChunk) → place < next → AllByRecursion (λ other. stands_before (record { chunk = chunk; place = place }) other ≡ true) (placed_from next chunks)
later_places place next chunk [] lt = tt
later_places place next chunk (c ∷ cs) lt = (is_lt-from_Less (nat_cmp place next) (nat_cmp-Less place next lt), later_places place (next + 1) chunk cs (omega (arith, lt)))

pub places_ascend : (place : ℕ) (chunks : List InputChunk) → Ascends stands_before (placed_from place chunks)
places_ascend place [] = tt
places_ascend place (c ∷ cs) = (later_places place (place + 1) c cs (omega arith), places_ascend (place + 1) cs)

pub chunks_placed : (place : ℕ) (chunks : List InputChunk) → map placed_chunk (placed_from place chunks) ≡ map chunk_of chunks
chunks_placed place [] = refl
chunks_placed place (c ∷ cs) = ap (λ l. chunk_of c ∷ l) (chunks_placed (place + 1) cs)

pub placed_length : (place : ℕ) (chunks : List InputChunk) → length (placed_from place chunks) ≡ length chunks
placed_length place [] = refl
placed_length place (c ∷ cs) = ap suc (placed_length (place + 1) cs)

pub placed_more : (place k : ℕ) (chunks : List InputChunk) (d : InputChunk) → k < length chunks
    → take (k + 1) (placed_from place chunks) ≡ take k (placed_from place chunks) ++ record { chunk = get_or chunks k d; place = place + k } ∷ []
placed_more place k [] d lt = absurd (omega (arith, lt))
placed_more place zero (c ∷ cs) d lt = let e : place + 0 ≡ place = omega arith in rw e refl
placed_more place (suc k) (c ∷ cs) d lt =
    let e : (place + 1) + k ≡ place + suc k = omega arith in
    let n : suc k + 1 ≡ suc (k + 1) = omega arith in
    rw n (ap (λ l. record { chunk = c; place = place } ∷ l) (placed_more (place + 1) k cs d (omega (arith, lt))
    ∙ ap (λ (m : ℕ). take k (placed_from (place + 1) cs) ++ record { chunk = get_or cs k d; place = m } ∷ []) e))

pub pushed_more : (k : ℕ) (chunks : List InputChunk) (d : InputChunk) (made new : List PlacedChunk) → k < length chunks → made ≡ take k (placed_from 0 chunks) → new ≡ made ++ record { chunk = get_or chunks k d; place = k } ∷ []
    → new ≡ take (k + 1) (placed_from 0 chunks)
pushed_more k chunks d made new lt was is =
    let e : 0 + k ≡ k = omega arith in
    is ∙ ap (λ l. l ++ record { chunk = get_or chunks k d; place = k } ∷ []) was ∙ ap (λ (m : ℕ). take k (placed_from 0 chunks) ++ record { chunk = get_or chunks k d; place = m } ∷ []) (sym e) ∙ sym (placed_more 0 k chunks d lt)
