-- A chunk that stands in a segment is read from each range that holds it, and its read shows how far it goes.
use Rattle.std.proofs.Common.{◌≡◌, ℕ, ◌+◌, ◌-◌, ◌≤◌, Bool, true, false, List, ◌∷◌, ◌++◌, take, drop, length, Result, Ok, Err, refl, ap, ◌∙◌, append_assoc, arith}
use Rattle.std.specs.Prelude.{nat_le}
use Rattle.std.proofs.lemmas.List.{length-append}
use Rattle.std.proofs.Math.Seq.{take-append-add}
use Rattle.base.specs.Reading.{◌>>=◌, ◌>>◌}
use Rattle.label_sets.specs.declared.sample.Sample.{Sample}
use Rattle.wire_bytes.specs.Fields.{uvarint_at}
use Rattle.wire_bytes.specs.Position.{further}
use Rattle.wire_bytes.proofs.FieldLaws.{uvarint_again}
use Rattle.chunk_files.specs.Chunk.{IsChunk, IsFront}
use Rattle.chunk_files.specs.Layout.{greatest, xor}
use Rattle.chunk_files.proofs.ChunkLaws.{chunk_again}
use Rattle.xor_chunks.specs.Grammar.{IsText}
use Rattle.xor_chunks.proofs.TextsRead.{data_again}
use Rattle.index_parts.specs.Placed.{at_place}
use Rattle.store_chunks.specs.ChunkReads.{Glimpse, chunk_len_at, glimpse, glimpse_at, shows, sticks_out, stored_at}
use Rattle.store_chunks.specs.ChunkReads as reads
use Rattle.store_ranges.specs.ChunkRanges.{Group}

-- ---- fronts

-- what is taken of a front and more, where it is longer than the front
pub take_over : (n : ℕ) (xs ys : List ℕ) → length xs ≤ n → take n (xs ++ ys) ≡ xs ++ take (n - length xs) ys
take_over n xs ys le =
    let whole : n ≡ length xs + (n - length xs) = omega (arith, le) in
    ap (λ m. take m (xs ++ ys)) whole ∙ take-append-add xs ys (n - length xs)

-- ---- the samples of a chunk at the front

pub stored_front : (bytes content : List ℕ) (part : List Sample) → IsFront bytes content → IsText 8 content part → stored_at bytes ≡ Ok part
unfolding stored_at
stored_front bytes content part stands text = rw (chunk_again bytes content stands, data_again 8 content part text) refl

-- ---- a chunk that stands behind a place

module _ (text content after : List ℕ) (is : IsChunk text content) where
  -- how many bytes it takes
  pub chunk_size : length text ≡ length is.size + length content + 5
  chunk_size =
      let sum : length is.sum ≡ 4 = ap length is.sum_is.digits ∙ refl in
      omega (arith, ap length is.text_is, length-append (is.size ++ (xor ∷ content)) is.sum, length-append is.size (xor ∷ content), sum)

  -- bytes that go far enough begin with the size
  sized_front : (n : ℕ) → 10 ≤ n → (rest : List ℕ) × (take n (text ++ after) ≡ is.size ++ rest)
  sized_front n far =
      let few = is.size_is.few in
      let behind : List ℕ = (xor ∷ content) ++ (is.sum ++ after) in
      let parts : text ++ after ≡ is.size ++ behind =
      ap (λ (l : List ℕ). l ++ after) is.text_is ∙ append_assoc (is.size ++ (xor ∷ content)) is.sum after ∙ append_assoc is.size (xor ∷ content) (is.sum ++ after) in
      (take (n - length is.size) behind, ap (take n) parts ∙ take_over n is.size behind (omega (arith, few, far)))

  -- its size is read at its place in such bytes
  pub size_there : (bytes : List ℕ) (k n : ℕ) → 10 ≤ n → drop k bytes ≡ take n (text ++ after) → length content ≤ greatest → chunk_len_at bytes k ≡ Ok (length text)
  unfolding chunk_len_at
  size_there bytes k n far shown small =
      let front = sized_front n far in
      let read : uvarint_at (at_place bytes k) ≡ Ok (length content, further (length is.size) (at_place bytes k)) =
      uvarint_again (at_place bytes k) is.size (length content) front.0 is.size_is (shown ∙ front.1) in
      let fits : nat_le (length content) greatest ≡ true = grind (arith, small) in
      let total : k + length is.size - k + length content + 5 ≡ length text = omega (arith, chunk_size) in
      rw (read, fits) (ap (λ (m : ℕ). Ok m) total)

  -- bytes that hold it whole begin with it
  pub whole_front : (n : ℕ) → length text ≤ n → IsFront (take n (text ++ after)) content
  whole_front n far = (take (n - length text) after, (text, is, take_over n text after far))

-- ---- what a group's read shows of it

glimpsed : (b : Bool) (r : Result (List Sample) (Unit {0})) (len : ℕ) (part : List Sample) → (b ≡ true → r ≡ Ok part) → (seen : Glimpse) × (glimpse b r len ≡ Ok seen)
glimpsed true r len part whole = (shows part, ap (λ (q : Result (List Sample) (Unit {0})). q >>= λ list. Ok (shows list)) (whole refl))
glimpsed false r len part whole = (sticks_out len, refl)

out_size : (b : Bool) (r : Result (List Sample) (Unit {0})) (one len : ℕ) → glimpse b r one ≡ Ok (sticks_out len) → one ≡ len
out_size true (Ok list) one len is = absurd (cc (is))
out_size true (Err e) one len is = absurd (cc (is))
out_size false r one len is = cc (is)

module _ (tests : reads.Tests) (group : Group) (bytes : List ℕ) (reference size : ℕ) (there : chunk_len_at bytes (reference - group.first) ≡ Ok size) where
  pub glimpse_there : (part : List Sample) → (nat_le (reference - group.first + size) group.piece.len ≡ true → tests reference (drop (reference - group.first) bytes) ≡ Ok part)
      → (seen : Glimpse) × (glimpse_at tests group bytes reference ≡ Ok seen)
  unfolding glimpse_at
  glimpse_there part whole =
      let seen = glimpsed (nat_le (reference - group.first + size) group.piece.len) (tests reference (drop (reference - group.first) bytes)) size part whole in
      (seen.0, rw there seen.1)

  pub out_there : (len : ℕ) → glimpse_at tests group bytes reference ≡ Ok (sticks_out len) → size ≡ len
  unfolding glimpse_at
  out_there len is = out_size (nat_le (reference - group.first + size) group.piece.len) (tests reference (drop (reference - group.first) bytes)) size len (rw there at is)
