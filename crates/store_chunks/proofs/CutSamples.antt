-- The samples of a chunk that lie in the range.
use Rattle.std.proofs.Common.{◌≡◌, ℕ, ℤ, ◌≤ℤ◌, Bool, true, false, ◌&&◌, List, [], ◌∷◌, ◌++◌, length, Option, Some, None, Result, Ok, Err, refl, ap, subst, ◌∙◌, append_assoc, arith}
use Rattle.std.specs.Prelude.{slice_get, IfOk, IsErr, IsSomeAnd}
use Rattle.std.specs.List.{list_all}
use Rattle.std.proofs.lemmas.Bool.{and_parts}
use Rattle.std.proofs.lemmas.Int.{ints}
use Rattle.std.proofs.lemmas.List.{take_all, take-append-le}
use Rattle.base.specs.Grammar.{IsBytes}
use Rattle.base.specs.declared.memory.NoMemory.{NoMemory}
use Rattle.base.proofs.Binds.{bind_ok, ok_is, refused_as_ok, unless_ok}
use Rattle.base.proofs.Fronts.{IsBytes-after, IsBytes-drop, IsBytes-take}
use Rattle.base.proofs.Lists.{filter_hit}
use Rattle.label_sets.specs.declared.sample.Sample.{Sample}
use Rattle.matchers.specs.Selected.{is_between}
use Rattle.xor_chunks.specs.Data.{data_at}
use Rattle.xor_chunks.proofs.TextsRead.{found}
use Rattle.chunk_files.specs.Layout.{xor}
use Rattle.chunk_files.specs.ChunkReading.{chunk_at}
use Rattle.chunk_files.proofs.ChunkLaws.{chunk_found}
use Rattle.index_parts.specs.declared.chunk_place.ChunkPlace.{ChunkPlace}
use Rattle.block_content.specs.ContentReading.{have_times_of, LieBetween}
use Rattle.block_content.proofs.Appending.{text_between}
use Rattle.block_content.proofs.ChunksRead.{times_found}
use Rattle.store_ranges.specs.Reads.{Query, Block}
use Rattle.store_ranges.specs.Findings.{ReadsBehind}
use Rattle.store_ranges.proofs.Readings.{err_of}
use Rattle.store_chunks.specs.ChunkReads.{is_chunk_of, stored_at, tested_at, in_range, chunk_samples_at}

-- ---- times

between_inside : (low high min max time : ℤ) → low ≤ℤ min → max ≤ℤ high → min ≤ℤ time → time ≤ℤ max → is_between low high time ≡ true
between_inside low high min max time begins ends from to = grind (arith, ints)

within_all : (query : Query) (place : ChunkPlace) (samples : List Sample) → query.low ≤ℤ place.min → place.max ≤ℤ query.high → LieBetween place samples → in_range query samples ≡ samples
within_all query place [] begins ends lie = refl
within_all query place (s ∷ samples) begins ends lie =
    filter_hit (λ (x : Sample). is_between query.low query.high x.time) s samples (between_inside query.low query.high place.min place.max s.time begins ends lie.0.0 lie.0.1)
    ∙ ap (λ (l : List Sample). s ∷ l) (within_all query place samples begins ends lie.1)

-- ---- the data of a chunk

content_bytes : (bytes content : List ℕ) → IsBytes bytes → chunk_at bytes ≡ Ok content → IsBytes content
content_bytes bytes content are is =
    let front = chunk_found bytes content are is in
    let chunk = front.1.1 in
    let rest : List ℕ = chunk.sum ++ front.0 in
    let parts : bytes ≡ chunk.size ++ ((xor ∷ content) ++ rest) =
    front.1.2 ∙ ap (λ (a : List ℕ). a ++ front.0) chunk.text_is ∙ append_assoc (chunk.size ++ (xor ∷ content)) chunk.sum front.0 ∙ append_assoc chunk.size (xor ∷ content) rest in
    let behind : IsBytes (content ++ rest) = IsBytes-drop 1 ((xor ∷ content) ++ rest) (IsBytes-after chunk.size ((xor ∷ content) ++ rest) bytes parts are) in
    subst IsBytes (take-append-le (length content) content rest (omega arith) ∙ take_all (length content) content (omega arith)) (IsBytes-take (length content) (content ++ rest) behind)

-- the samples of a chunk lie between the times of its place
stored_between : (bytes : List ℕ) (place : ChunkPlace) (samples : List Sample) → IsBytes bytes → stored_at bytes ≡ Ok samples → have_times_of place samples ≡ true → LieBetween place samples
unfolding stored_at
stored_between bytes place samples are read timed =
    let one = bind_ok _ _ _ read in
    let chunk : chunk_at bytes ≡ Ok one.0 = refused_as_ok _ _ _ one.1 in
    let decoded : data_at 8 one.0 ≡ Ok samples = refused_as_ok _ _ _ one.2 in
    text_between place one.0 samples (found 8 one.0 (Ok samples) (content_bytes bytes one.0 are chunk) decoded) (times_found place samples timed)

-- ---- those in the range

module _ (query : Query) (block : Block) (places : List ChunkPlace) (bytes : List ℕ) where
  cut_of : (whole : List Sample) → tested_at block places bytes ≡ Ok whole → chunk_samples_at query block places bytes ≡ Ok (in_range query whole)
  unfolding chunk_samples_at
  cut_of whole is = rw is refl

  stopped : {e : Unit {0}} → tested_at block places bytes ≡ Err e → IsErr (chunk_samples_at query block places bytes)
  unfolding chunk_samples_at
  stopped is = rw is refl

  pub cut_stops : IsErr (tested_at block places bytes) → IsErr (chunk_samples_at query block places bytes)
  cut_stops refused = stopped (err_of (tested_at block places bytes) refused).1

  -- what was read by itself and cut stands behind others
  pub cut_behind : (front all whole cut nothing : List Sample) → nothing ≡ [] → (more : List Sample) × (tested_at block places bytes ≡ Ok more) × (whole ≡ nothing ++ more) → cut ≡ in_range query whole → all ≡ front ++ cut
      → (more : List Sample) × (chunk_samples_at query block places bytes ≡ Ok more) × (all ≡ front ++ more)
  cut_behind front all whole cut nothing none (more, is, are) cut_is all_is =
      (in_range query more, cut_of more is, all_is ∙ ap (λ (l : List Sample). front ++ l) (cut_is ∙ ap (in_range query) (are ∙ ap (λ (l : List Sample). l ++ more) none)))

  -- the first of the places lies in the range
  abbrev IsInside : Type 0
  IsInside = IsSomeAnd (slice_get places 0) (λ place. (query.low ≤ℤ place.min) × (place.max ≤ℤ query.high))

second_of_five : (a b c d e : Bool) → (a && b && c && d && e) ≡ true → b ≡ true
second_of_five true true c d e all = refl
second_of_five true false c d e all = absurd (cc (all))
second_of_five false b c d e all = absurd (cc (all))

-- where that is so, all samples lie in it
inside_all : (query : Query) (block : Block) (places : List ChunkPlace) (bytes : List ℕ) → IsBytes bytes → IsInside query block places bytes → (whole : List Sample) → tested_at block places bytes ≡ Ok whole → in_range query whole ≡ whole
unfolding tested_at
inside_all query block [] bytes are inside whole read = absurd inside
inside_all query block (place ∷ places) bytes are inside whole read =
    let one = bind_ok _ _ _ read in
    let tests = unless_ok (list_all (is_chunk_of block one.0) (place ∷ places)) tt _ whole one.2 in
    let same : one.0 ≡ whole = ok_is {E = Unit {0}} one.0 whole tests.1 in
    let first : is_chunk_of block one.0 place ≡ true = (and_parts _ _ tests.0).0 in
    let timed : have_times_of place one.0 ≡ true = second_of_five _ _ _ _ _ first in
    subst (λ (l : List Sample). in_range query l ≡ l) same (within_all query place one.0 inside.0 inside.1 (stored_between bytes place one.0 are one.1 timed))

pub inside_behind : {S : Type 0} (view : S → List Sample) (front : List Sample) (query : Query) (block : Block) (places : List ChunkPlace) (bytes : List ℕ) (r : Result (Option S) NoMemory) → IsBytes bytes → IsInside query block places bytes
    → IfOk r (ReadsBehind view front (tested_at block places bytes)) → IfOk r (ReadsBehind view front (chunk_samples_at query block places bytes))
inside_behind view front query block places bytes (Ok (Some all)) are inside (more, is, same) =
    (more, cut_of query block places bytes more is ∙ ap (λ (l : List Sample). Ok l) (inside_all query block places bytes are inside more is), same)
inside_behind view front query block places bytes (Ok None) are inside refused = cut_stops query block places bytes refused
inside_behind view front query block places bytes (Err none) are inside read = tt
