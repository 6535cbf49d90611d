-- The order of chunk places does not matter to the tests of their chunks.
use Rattle.std.proofs.Common.{◌≡◌, ℕ, Bool, true, List, Result, Ok, Err, refl, ap, ◌==◌}
use Rattle.std.specs.List.{filter, list_all}
use Rattle.std.specs.List.Sorted.{IsPermutation}
use Rattle.std.proofs.lemmas.List.Sorted.{Contains-permutation, IsPermutation-sym}
use Rattle.base.proofs.Membership.{of_filter, into_filter, member_passes, all_at_member, all_of_members}
use Rattle.base.proofs.Bools.{equal_tests}
use Rattle.base.specs.Reading.{◌>>=◌, ◌>>◌, unless}
use Rattle.label_sets.specs.declared.sample.Sample.{Sample}
use Rattle.index_parts.specs.declared.chunk_place.ChunkPlace.{ChunkPlace}
use Rattle.index_parts.specs.SeriesEntry.{reference_of}
use Rattle.store_ranges.specs.Reads.{Query, Block}
use Rattle.store_chunks.specs.ChunkReads.{is_chunk_of, stored_at, tested_at, in_range, chunk_samples_at, places_at, tests_at}

all_again : {A : Type 0} (p q : A → Bool) (xs ys : List A) → IsPermutation xs ys → list_all p (filter q xs) ≡ true → list_all p (filter q ys) ≡ true
all_again p q xs ys same are = all_of_members p (filter q ys) (λ x within.
    all_at_member p (filter q xs) x are (into_filter q xs x (Contains-permutation ys xs x (IsPermutation-sym xs ys same) (of_filter q ys x within)) (member_passes q ys x within)))

all_same : {A : Type 0} (p q : A → Bool) (xs ys : List A) → IsPermutation xs ys → list_all p (filter q xs) ≡ list_all p (filter q ys)
all_same p q xs ys same = equal_tests (list_all p (filter q xs)) (list_all p (filter q ys)) (all_again p q xs ys same) (all_again p q ys xs (IsPermutation-sym xs ys same))

tested_same : (read : Result (List Sample) (Unit {0})) (p q : List Sample → Bool) → ((samples : List Sample) → p samples ≡ q samples)
    → (read >>= λ samples. unless (p samples) tt >> Ok samples) ≡ (read >>= λ samples. unless (q samples) tt >> Ok samples)
tested_same (Ok samples) p q same = ap (λ b. unless b tt >> Ok samples) (same samples)
tested_same (Err refusal) p q same = refl

tested_again : (block : Block) (xs ys : List ChunkPlace) → IsPermutation xs ys → (reference : ℕ) (bytes : List ℕ) → tested_at block (places_at xs reference) bytes ≡ tested_at block (places_at ys reference) bytes
unfolding tested_at
tested_again block xs ys same reference bytes =
    tested_same (stored_at bytes) (λ samples. list_all (is_chunk_of block samples) (places_at xs reference)) (λ samples. list_all (is_chunk_of block samples) (places_at ys reference))
    (λ samples. all_same (is_chunk_of block samples) (λ place. reference_of place == reference) xs ys same)

same_at : (query : Query) (block : Block) (xs ys : List ChunkPlace) → IsPermutation xs ys → (reference : ℕ) (bytes : List ℕ) → tests_at query block xs reference bytes ≡ tests_at query block ys reference bytes
unfolding chunk_samples_at
same_at query block xs ys same reference bytes =
    ap (λ (read : Result (List Sample) (Unit {0})). read >>= λ samples. Ok (in_range query samples)) (tested_again block xs ys same reference bytes)

pub same_tests : (query : Query) (block : Block) (xs ys : List ChunkPlace) → IsPermutation xs ys → tests_at query block xs ≡ tests_at query block ys
same_tests query block xs ys same = λ i reference bytes. same_at query block xs ys same reference bytes i
