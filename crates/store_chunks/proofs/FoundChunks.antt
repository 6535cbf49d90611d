-- The chunk of a reference, among those that were read.
use Rattle.std.proofs.Common.{◌≡◌, ℕ, zero, suc, ◌+◌, ◌<◌, ◌≤◌, ◌==◌, true, false, List, [], ◌∷◌, length, get_or, Option, Some, None, refl, sym, ap, subst, ◌∙◌, ◌⊎◌, inl, inr, arith}
use Rattle.std.specs.Prelude.{find, option_map, unwrap_or, slice_get, nat_lt}
use Rattle.std.specs.List.Sorted.{IsStrictlyIncreasing, IsPartitionPoint, IsNonDecreasingBy}
use Rattle.std.proofs.lemmas.Option.{slice_get_within, get_or_from_slice_get, slice_get-get_or}
use Rattle.std.proofs.lemmas.Map.Keys.{sorted_from_strictly_increasing, non_decreasing_from_sorted}
use Rattle.std.proofs.lemmas.Bool.Decides.{nat_tests}
use Rattle.label_sets.specs.declared.sample.Sample.{Sample}
use Rattle.index_parts.specs.declared.chunk_place.ChunkPlace.{ChunkPlace}
use Rattle.index_parts.specs.SeriesEntry.{reference_of}
use Rattle.store_chunks.specs.ChunkReads.{Read, read}
use Rattle.store_chunks.specs.Taken.{samples_of}
use Rattle.store_chunks.specs.ChunksRead.{reads_apart, references_apart}
use Rattle.store_chunks.specs.declared.shown.ChunkRead.{ChunkRead}

abbrev found_at : List ChunkRead → ℕ → Option Read
found_at found r = find (λ one. one.reference == r) (reads_apart found)

passed : (one : ChunkRead) (found : List ChunkRead) (r : ℕ) → (one.reference == r) ≡ false → found_at (one ∷ found) r ≡ found_at found r
passed one found r is = rw is refl

stops : (one : ChunkRead) (found : List ChunkRead) (r : ℕ) → (one.reference == r) ≡ true → found_at (one ∷ found) r ≡ Some (read one.reference one.samples)
stops one found r is = rw is refl

there : (found : List ChunkRead) (r p : ℕ) (d : ChunkRead) → ((k : ℕ) → k < p → k < length found → (get_or found k d).reference < r) → p < length found → (get_or found p d).reference ≡ r
    → found_at found r ≡ Some (read (get_or found p d).reference (get_or found p d).samples)
there [] r p d below within is = absurd (omega (arith, within))
there (one ∷ found) r zero d below within is = stops one found r (grind (arith, nat_tests))
there (one ∷ found) r (suc p) d below within is =
    let h : one.reference < r = below 0 (omega arith) (omega arith) in
    let f : (one.reference == r) ≡ false = grind (arith, nat_tests) in
    passed one found r f ∙ there found r p d (λ k a b. below (suc k) (omega arith) (omega arith)) (omega arith) is

nowhere : (found : List ChunkRead) (r : ℕ) → ((k : ℕ) (d : ChunkRead) → k < length found → (get_or found k d).reference ≡ r → ⊥) → found_at found r ≡ None
nowhere [] r none = refl
nowhere (one ∷ found) r none =
    let apart : one.reference ≡ r → ⊥ = none 0 one (omega arith) in
    let f : (one.reference == r) ≡ false = grind (arith, nat_tests, apart) in
    passed one found r f ∙ nowhere found r (λ k d a. none (suc k) d (omega arith))

abbrev samples_in : Option Read → List Sample
samples_in found = unwrap_or (option_map (λ one. one.samples) found) []

pub samples_there : (found : List ChunkRead) (place : ChunkPlace) (p : ℕ) (d : ChunkRead) → ((k : ℕ) → k < p → k < length found → (get_or found k d).reference < reference_of place) → p < length found
    → (get_or found p d).reference ≡ reference_of place → (get_or found p d).samples ≡ samples_of (reads_apart found) place
samples_there found place p d below within is = sym (ap samples_in (there found (reference_of place) p d below within is))

pub samples_nowhere : (found : List ChunkRead) (place : ChunkPlace) → ((k : ℕ) (d : ChunkRead) → k < length found → (get_or found k d).reference ≡ reference_of place → ⊥) → [] ≡ samples_of (reads_apart found) place
samples_nowhere found place none = sym (ap samples_in (nowhere found (reference_of place) none))

-- ---- by the point at which those with lesser references end

reference_at : (found : List ChunkRead) (k : ℕ) (d : ChunkRead) → k < length found → get_or (references_apart found) k 0 ≡ (get_or found k d).reference
reference_at [] k d within = absurd (omega (arith, within))
reference_at (one ∷ found) zero d within = refl
reference_at (one ∷ found) (suc k) d within = reference_at found k d (omega (arith, within))

as_many : (found : List ChunkRead) → length (references_apart found) ≡ length found
as_many [] = refl
as_many (one ∷ found) = ap (λ n. suc n) (as_many found)

pub rising : (found : List ChunkRead) → IsStrictlyIncreasing (references_apart found) → IsNonDecreasingBy (λ one. one.reference) found
rising found up i j d le within =
    let rises = non_decreasing_from_sorted (references_apart found) (sorted_from_strictly_increasing (references_apart found) up) in
    let h : get_or (references_apart found) i 0 ≤ get_or (references_apart found) j 0 = rises i j 0 le (omega (arith, within, as_many found)) in
    omega (arith, h, reference_at found i d (omega (arith, le, within)), reference_at found j d within)

abbrev pub IsPoint : List ChunkRead → ℕ → ℕ → Type 0
IsPoint found r p = IsPartitionPoint (λ (y : ChunkRead). nat_lt y.reference r ≡ true) (λ (y : ChunkRead). nat_lt y.reference r ≡ false) found p

pub found_there : (found : List ChunkRead) (place : ChunkPlace) (p : ℕ) (one : ChunkRead) → IsPoint found (reference_of place) p → slice_get found p ≡ Some one → one.reference ≡ reference_of place
    → one.samples ≡ samples_of (reads_apart found) place
found_there found place p one point is same =
    let at : get_or found p one ≡ one = get_or_from_slice_get found p one one is in
    sym (ap (λ (x : ChunkRead). x.samples) at)
    ∙ samples_there found place p one
    (λ k a b. let t : nat_lt (get_or found k one).reference (reference_of place) ≡ true = point.0 k one (omega arith) a in grind (arith, nat_tests))
    (slice_get_within found p one is) (ap (λ (x : ChunkRead). x.reference) at ∙ same)

split : (k p : ℕ) → (k < p) ⊎ ((k ≡ p) ⊎ (p + 1 ≤ k))
split k p = grind arith

pub not_there : (found : List ChunkRead) (place : ChunkPlace) (p : ℕ) → IsStrictlyIncreasing (references_apart found) → IsPoint found (reference_of place) p
    → ((one : ChunkRead) → slice_get found p ≡ Some one → one.reference ≡ reference_of place → ⊥) → [] ≡ samples_of (reads_apart found) place
not_there found place p up point none = samples_nowhere found place (λ k d within is. elim (split k p) [
  | inl a ↦ let t : nat_lt (get_or found k d).reference (reference_of place) ≡ true = point.0 k d (omega arith) a in absurd (grind (arith, nat_tests))
  | inr (inl b) ↦ none (get_or found k d) (subst (λ i. slice_get found i ≡ Some (get_or found k d)) b (slice_get-get_or found k d within)) is
  | inr (inr b) ↦
      let f : nat_lt (get_or found p d).reference (reference_of place) ≡ false = point.1 p d (omega arith) (omega (arith, b, within)) in
      let next : get_or (references_apart found) p 0 < get_or (references_apart found) (p + 1) 0 = up p (omega (arith, b, within, as_many found)) in
      let e0 = reference_at found p d (omega (arith, b, within)) in
      let e1 = reference_at found (p + 1) d (omega (arith, b, within)) in
      let le : (get_or found (p + 1) d).reference ≤ (get_or found k d).reference = rising found up (p + 1) k d b within in
      absurd (grind (arith, nat_tests))
])
