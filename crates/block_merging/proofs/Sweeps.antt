-- Chunks in the order of their begins, of which a front was passed.
use Rattle.std.proofs.Common.{◌≡◌, ℕ, zero, suc, ◌+◌, ◌<◌, ◌≤◌, Bool, false, List, [], ◌∷◌, length, get_or, refl, sym, ap, ◌∙◌, subst, arith, ℤ}
use Rattle.std.specs.Prelude.{int_lt, ◌≤ℤ◌, ◌<ℤ◌}
use Rattle.std.specs.Int.{int_max}
use Rattle.std.proofs.lemmas.Int.{ints, by_lt_z}
use borrow.Author.Count.{below_more}
use Rattle.block_merging.specs.declared.placed_chunk.PlacedChunk.{PlacedChunk}
use Rattle.block_merging.specs.Placed.{placed_chunk, AreByBegin}
use Rattle.block_merging.specs.Runs.{Meet}
use Rattle.base.proofs.Integers.{le_le}

abbrev at : List PlacedChunk → ℕ → PlacedChunk → PlacedChunk
at chunks k d = get_or chunks k d

-- Each of so many but the first meets one before it; `end` is the greatest end of them, and of the first one before any was passed.
pub record IsSwept (chunks : List PlacedChunk) (count : ℕ) (end : ℤ) : Type 0 where
  pub chained : (k : ℕ) (d : PlacedChunk) → 0 < k → k < count → (j : ℕ) × (j < k) × Meet (placed_chunk (at chunks k d)) (placed_chunk (at chunks j d))
  pub below : (k : ℕ) (d : PlacedChunk) → k < count → (at chunks k d).chunk.max ≤ℤ end
  pub last : ℕ
  pub last_in : last ≤ count
  pub last_before : 0 < count → last < count
  pub last_is : (d : PlacedChunk) → (at chunks last d).chunk.max ≡ end

not_behind : (a b : ℤ) → int_lt a b ≡ false → b ≤ℤ a
not_behind a b h = grind (arith, ints)

max_first : (a b new : ℤ) → new ≡ int_max a b → b ≤ℤ a → new ≡ a
max_first a b new e le = grind (arith, ints)

max_second : (a b new : ℤ) → new ≡ int_max a b → a <ℤ b → new ≡ b
max_second a b new e lt = grind (arith, ints)

le_itself : (a b : ℤ) → a ≡ b → a ≤ℤ b
le_itself a b e = omega (arith, ints)

pub weaken : (a b : ℤ) → a <ℤ b → a ≤ℤ b
weaken a b h = omega (arith, ints)

get_same : (chunks : List PlacedChunk) (k : ℕ) (d e : PlacedChunk) → k < length chunks → at chunks k d ≡ at chunks k e
get_same [] k d e lt = absurd (omega (arith, lt))
get_same (c ∷ cs) zero d e lt = refl
get_same (c ∷ cs) (suc k) d e lt = get_same cs k d e (omega (arith, lt))

-- the chunk that comes next meets the one that ends last
meets_last : (chunks : List PlacedChunk) (count : ℕ) (end : ℤ) (d : PlacedChunk) (h : IsSwept chunks count end) → AreByBegin chunks → count < length chunks → 0 < count → (at chunks count d).chunk.min ≤ℤ end
    → Meet (placed_chunk (at chunks count d)) (placed_chunk (at chunks h.last d))
meets_last chunks count end d h by within some before = (
  subst (λ (t : ℤ). (at chunks count d).chunk.min ≤ℤ t) (sym (h.last_is d)) before,
  le_le (at chunks h.last d).chunk.min (at chunks count d).chunk.min (at chunks count d).chunk.max (by.sorted h.last count d h.last_in within) (by.timed count d within),
)

pub swept_more : (chunks : List PlacedChunk) (count : ℕ) (end bits new told : ℤ) (d : PlacedChunk) (behind : Bool) → AreByBegin chunks → count < length chunks → IsSwept chunks count end → bits ≡ end
    → behind ≡ int_lt bits (get_or chunks count d).chunk.min → behind ≡ false → new ≡ int_max bits (get_or chunks count d).chunk.max → told ≡ new → IsSwept chunks (count + 1) told
swept_more chunks count end bits new told d behind by within h same test near newer is =
    let low : (at chunks count d).chunk.min ≤ℤ end = not_behind end (at chunks count d).chunk.min (ap (λ (t : ℤ). int_lt t (at chunks count d).chunk.min) (sym same) ∙ sym test ∙ near) in
    let greater : told ≡ int_max end (at chunks count d).chunk.max = is ∙ newer ∙ ap (λ (t : ℤ). int_max t (at chunks count d).chunk.max) same in
    let before : (e : PlacedChunk) → (at chunks count e).chunk.min ≤ℤ end = λ e. subst (λ (c : PlacedChunk). c.chunk.min ≤ℤ end) (get_same chunks count d e within) low in
    let chained : (k : ℕ) → k < count + 1 → (e : PlacedChunk) → 0 < k → (j : ℕ) × (j < k) × Meet (placed_chunk (at chunks k e)) (placed_chunk (at chunks j e)) =
    below_more (λ k. (e : PlacedChunk) → 0 < k → (j : ℕ) × (j < k) × Meet (placed_chunk (at chunks k e)) (placed_chunk (at chunks j e))) count
    (λ k lt e some. h.chained k e some lt) (λ e some. (h.last, h.last_before some, meets_last chunks count end e h by within some (before e))) in
    by_lt_z end (at chunks count d).chunk.max
    (λ lt. let now : told ≡ (at chunks count d).chunk.max = max_second end (at chunks count d).chunk.max told greater lt in record {
      chained = λ k e some below. chained k below e some;
      below = λ k e below. below_more (λ k. (e : PlacedChunk) → (at chunks k e).chunk.max ≤ℤ told) count (λ k lower e. le_le (at chunks k e).chunk.max end told (h.below k e lower) (subst (λ (t : ℤ). end ≤ℤ t) (sym now) (weaken end (at chunks count d).chunk.max lt)))
          (λ e. le_itself (at chunks count e).chunk.max told (ap (λ (c : PlacedChunk). c.chunk.max) (get_same chunks count e d within) ∙ sym now)) k below e;
      last = count;
      last_in = omega arith;
      last_before = λ some. omega arith;
      last_is = λ e. ap (λ (c : PlacedChunk). c.chunk.max) (get_same chunks count e d within) ∙ sym now;
    })
    (λ le. let now : told ≡ end = max_first end (at chunks count d).chunk.max told greater le in record {
      chained = λ k e some below. chained k below e some;
      below = λ k e below. below_more (λ k. (e : PlacedChunk) → (at chunks k e).chunk.max ≤ℤ told) count (λ k lower e. subst (λ (t : ℤ). (at chunks k e).chunk.max ≤ℤ t) (sym now) (h.below k e lower))
          (λ e. subst (λ (c : PlacedChunk). c.chunk.max ≤ℤ told) (get_same chunks count d e within) (subst (λ (t : ℤ). (at chunks count d).chunk.max ≤ℤ t) (sym now) le)) k below e;
      last = h.last;
      last_in = omega (arith, h.last_in);
      last_before = λ some. omega (arith, h.last_in);
      last_is = λ e. h.last_is e ∙ sym now;
    })
