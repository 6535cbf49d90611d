-- The samples of a chunk that was read in a range of a segment are those of the chunk that stands there.
use Rattle.std.proofs.Common.{◌≡◌, ℕ, ◌+◌, ◌-◌, ◌*◌, ◌/◌, ◌%◌, ◌^◌, ◌<◌, ◌≤◌, Bool, true, false, List, [], ◌∷◌, ◌++◌, map, take, drop, length, Some, Ok, refl, sym, ap, subst, ◌∙◌, inl, inr, append_assoc, arith}
use Rattle.std.specs.Prelude.{Contains, find, ◌==◌}
use Rattle.std.specs.List.{AllByRecursion, list_all}
use Rattle.std.proofs.lemmas.List.{drop-append-le, drop-drop, drop_all, take-append-drop}
use Rattle.std.proofs.lemmas.Bool.{cases_lt, eqb-true, eq-eqb}
use Rattle.base.proofs.Membership.{member_cases, no_member}
use Rattle.base.specs.Grammar.{IsBytes}
use Rattle.base.proofs.Binds.{bind_ok, ok_is, refused_as_ok, unless_ok}
use Rattle.base.proofs.Fronts.{IsBytes-drop, IsBytes-take}
use Rattle.label_sets.specs.declared.sample.Sample.{Sample}
use Rattle.chunk_files.specs.Chunk.{IsFront}
use Rattle.chunk_files.specs.ChunkReading.{chunk_at}
use Rattle.chunk_files.proofs.ChunkLaws.{chunk_again, chunk_found}
use Rattle.chunk_files.specs.declared.refusal.ChunkRefusal.{ChunkRefusal}
use Rattle.xor_chunks.specs.Grammar.{IsText}
use Rattle.xor_chunks.specs.Data.{data_at}
use Rattle.xor_chunks.specs.declared.refusal.XorRefusal.{XorRefusal}
use Rattle.xor_chunks.proofs.TextsRead.{data_again}
use Rattle.store_chunks.specs.ChunkReads.{Read, chunk_samples_at, in_range, is_chunk_of, stored_at, tested_at}
use Rattle.store_ranges.specs.Reads.{Query, Block}
use Rattle.index_parts.specs.declared.chunk_place.ChunkPlace.{ChunkPlace}

-- ---- a part of a segment

-- what stands behind a place of a range, stands behind it in the segment
behind : (from len k : ℕ) (bytes : List ℕ) → (rest : List ℕ) × (drop (from + k) bytes ≡ drop k (take len (drop from bytes)) ++ rest)
behind from len k bytes =
    let far : drop (from + k) bytes ≡ drop k (drop from bytes) = sym (drop-drop k from bytes) in
    let rest = dropped k (take len (drop from bytes)) (drop len (drop from bytes)) in
    (rest.0, far ∙ ap (drop k) (sym (take-append-drop len (drop from bytes))) ∙ rest.1)
  where
    dropped : (k : ℕ) (front after : List ℕ) → (rest : List ℕ) × (drop k (front ++ after) ≡ drop k front ++ rest)
    dropped k front after = elim (cases_lt k (length front)) [
      | inl lt ↦ (after, drop-append-le k front after (omega (arith, lt)))
      | inr le ↦ (drop k (front ++ after), sym (ap (λ l. l ++ drop k (front ++ after)) (drop_all k front le)))
    ]

front_longer : (bytes rest content : List ℕ) → IsFront bytes content → IsFront (bytes ++ rest) content
front_longer bytes rest content (after, (text, is, same)) = (after ++ rest, (text, is, ap (λ l. l ++ rest) same ∙ append_assoc text after rest))

-- ---- the samples

pub stored_same : (segment : List ℕ) (from len k offset : ℕ) (content : List ℕ) (samples part : List Sample) → IsBytes segment → offset ≡ from + k → IsFront (drop offset segment) content → IsText 8 content part
    → stored_at (drop k (take len (drop from segment))) ≡ Ok samples → samples ≡ part
unfolding stored_at
stored_same segment from len k offset content samples part bytes place stands is read =
    let shown = drop k (take len (drop from segment)) in
    let one = bind_ok _ _ _ read in
    let chunk : chunk_at shown ≡ Ok one.0 = refused_as_ok _ _ _ one.1 in
    let front : IsFront shown one.0 = chunk_found shown one.0 (IsBytes-drop k (take len (drop from segment)) (IsBytes-take len (drop from segment) (IsBytes-drop from segment bytes))) chunk in
    let rest = behind from len k segment in
    let there : IsFront (drop offset segment) one.0 =
    subst (λ l. IsFront l one.0) (sym rest.1 ∙ ap (λ n. drop n segment) (sym place)) (front_longer shown rest.0 one.0 front) in
    let same : one.0 ≡ content = ok_is {E = ChunkRefusal} one.0 content (sym (chunk_again (drop offset segment) one.0 there) ∙ chunk_again (drop offset segment) content stands) in
    let decoded : data_at 8 one.0 ≡ Ok samples = refused_as_ok _ _ _ one.2 in
    ok_is {E = XorRefusal} samples part (sym decoded ∙ ap (data_at 8) same ∙ data_again 8 content part is)

-- what is tested was read so, and those in the range are given
pub tested_read : (query : Query) (block : Block) (places : List ChunkPlace) (bytes : List ℕ) (samples : List Sample) → chunk_samples_at query block places bytes ≡ Ok samples
    → (whole : List Sample) × (stored_at bytes ≡ Ok whole) × (samples ≡ in_range query whole)
unfolding chunk_samples_at tested_at
tested_read query block places bytes samples read =
    let given = bind_ok _ _ _ read in
    let one = bind_ok _ _ _ given.1 in
    let tests = unless_ok (list_all (is_chunk_of block one.0) places) tt _ given.0 one.2 in
    (given.0, one.1 ∙ tests.1, sym (ok_is {E = Unit {0}} (in_range query given.0) samples given.2))

-- ---- a reference

pub same_offset : (first reference : ℕ) → first / 2 ^ 32 + 1 ≡ reference / 2 ^ 32 + 1 → first ≤ reference → reference % 2 ^ 32 ≡ first % 2 ^ 32 + (reference - first)
same_offset first reference same le = omega (arith, same, le)

pub segment_of_place : (segment offset : ℕ) → offset < 2 ^ 32 → (segment * 2 ^ 32 + offset) / 2 ^ 32 ≡ segment
segment_of_place segment offset fits = omega (arith, fits)

pub offset_of_place : (segment offset : ℕ) → offset < 2 ^ 32 → (segment * 2 ^ 32 + offset) % 2 ^ 32 ≡ offset
offset_of_place segment offset fits = omega (arith, fits)

-- ---- the chunks that were read

-- the first read of a reference
abbrev FirstRead : (Read → Type 0) → ℕ → List Read → Type 0
FirstRead P reference all = (one : Read) × P one × (one.reference ≡ reference) × (find (λ (r : Read). r.reference == reference) all ≡ Some one)

first_or_later : (P : Read → Type 0) (reference : ℕ) (r : Read) (all : List Read) (b : Bool) → (r.reference == reference) ≡ b → P r → (b ≡ false → FirstRead P reference all) → FirstRead P reference (r ∷ all)
first_or_later P reference r all true is holds later = (r, holds, eqb-true r.reference reference is, rw is refl)
first_or_later P reference r all false is holds later = let rest = later refl in (rest.0, rest.1, rest.2, rw is rest.3)

not_first : (r : Read) (reference : ℕ) (all : List Read) → Contains (map (λ (one : Read). one.reference) (r ∷ all)) reference → (r.reference == reference) ≡ false
    → Contains (map (λ (one : Read). one.reference) all) reference
not_first r reference all has off = elim (member_cases r.reference reference (map (λ (one : Read). one.reference) all) has) [
  | inl same ↦ let on : (r.reference == reference) ≡ true = eq-eqb r.reference reference same in absurd (cc (on, off))
  | inr among ↦ among
]

pub found_read : (P : Read → Type 0) (reference : ℕ) (all : List Read) → AllByRecursion P all → Contains (map (λ (one : Read). one.reference) all) reference → FirstRead P reference all
found_read P reference [] each has = absurd (no_member reference has)
found_read P reference (r ∷ all) each has =
    first_or_later P reference r all (r.reference == reference) refl each.0 (λ off. found_read P reference all each.1 (not_first r reference all has off))
