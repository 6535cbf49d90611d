-- What is read is in the grammar, and what is in the grammar is read.
use Rattle.std.proofs.Common.{◌≡◌, ℕ, ◌+◌, ◌<◌, ◌≤◌, Bool, true, false, cond, List, [], ◌∷◌, ◌++◌, length, get_or, drop, Result, Ok, Err, refl, sym, ap, subst, ◌∙◌, append_assoc, arith}
use Rattle.std.specs.Prelude.{◌==◌, ◌||◌, nat_le, IfOk}
use Rattle.std.specs.Result.{IsOkAnd}
use Rattle.std.specs.Int.{w8, w32}
use Rattle.std.proofs.lemmas.Bool.{leb-true, le-leb, eqb-true, eq-eqb}
use Rattle.std.proofs.lemmas.List.{drop_at, drop_all, length-append, length-drop}
use Rattle.base.specs.Reading.{◌>>◌, unless, refused_as, Answers}
use Rattle.base.specs.Grammar.{IsBytes, HasFront}
use Rattle.base.proofs.Fronts.{IsBytes-after, IsBytes-drop}
use Rattle.base.proofs.Binds.{bind_ok, unless_ok, refused_as_ok, ok_is, then_ok, unless_is}
use Rattle.wire_bytes.specs.Position.{left, further, start}
use Rattle.wire_bytes.specs.Fields.{number_at, uvarint_at, bytes_at, groups_of}
use Rattle.wire_bytes.specs.FieldTexts.{IsFixed, IsUvarint}
use Rattle.wire_bytes.specs.Crc.{crc}
use Rattle.wire_bytes.proofs.FieldLaws.{uvarint_found, uvarint_again, left-further, left_after}
use Rattle.wire_bytes.proofs.ByteFields.{bytes_split, bytes_again}
use Rattle.wire_bytes.proofs.FixedLaws.{wide8, wide32, number_found, number_again}
use Rattle.chunk_files.specs.declared.refusal.ChunkRefusal.{ChunkRefusal}
use Rattle.chunk_files.specs.declared.refusal.ChunkRefusal.TheVariants.{BadMagic, BadVersion, Short, Histogram, UnknownEncoding}
use Rattle.chunk_files.specs.Layout.{magic, version, header_size, xor, histogram, float_histogram}
use Rattle.chunk_files.specs.Chunk.{IsChunk, IsFront, IsSegment, IsPlace}
use Rattle.chunk_files.specs.ChunkReading.{as_short, header_at, by_encoding, chunk_at, segment_at}

-- the encoding of XOR data, and no other
xor_cases : (b d : Bool) (bytes content : List ℕ) (one other : ChunkRefusal) → cond b (Ok bytes) (cond d (Err one) (Err other)) ≡ Ok content → (b ≡ true) × (bytes ≡ content)
xor_cases true d bytes content one other e = (refl, ok_is {E = ChunkRefusal} _ _ e)
xor_cases false true bytes content one other e = absurd cc
xor_cases false false bytes content one other e = absurd cc

xor_found : (encoding : ℕ) (bytes content : List ℕ) → by_encoding encoding bytes ≡ Ok content → (encoding ≡ xor) × (bytes ≡ content)
xor_found encoding bytes content e =
    let h = xor_cases (encoding == xor) (encoding == histogram || encoding == float_histogram) bytes content (Histogram encoding) (UnknownEncoding encoding) e in
    (eqb-true encoding xor h.0, h.1)

pub one_in_front : (framed content : List ℕ) → 0 < length framed → get_or framed 0 0 ≡ xor → drop 1 framed ≡ content → framed ≡ xor ∷ content
one_in_front [] content some e d = absurd (omega arith)
one_in_front (x ∷ xs) content some e d = ap (λ (n : ℕ). n ∷ xs) e ∙ ap (λ (a : List ℕ). xor ∷ a) d

four_parts : (part size framed sum rest more after : List ℕ) → part ≡ size ++ rest → rest ≡ framed ++ more → more ≡ sum ++ after → part ≡ (size ++ framed ++ sum) ++ after
four_parts part size framed sum rest more after p q r =
    p ∙ ap (λ (a : List ℕ). size ++ a) (q ∙ ap (λ (a : List ℕ). framed ++ a) r) ∙ sym (append_assoc size framed (sum ++ after)) ∙ sym (append_assoc (size ++ framed) sum after)

pub chunk_found : (part content : List ℕ) → IsBytes part → chunk_at part ≡ Ok content → IsFront part content
unfolding chunk_at
chunk_found part content are e =
    let x = bind_ok (refused_as as_short (uvarint_at (start part))) _ content e in
    let y = bind_ok (refused_as as_short (bytes_at (x.0.0 + 1) x.0.1)) _ content x.2 in
    let z = bind_ok (refused_as as_short (number_at w32 y.0.1)) _ content y.2 in
    let tested = unless_ok (z.0.0 == crc y.0.0) _ _ content z.2 in
    let size = uvarint_found (start part) x.0.1 x.0.0 are (refused_as_ok as_short (uvarint_at (start part)) x.0 x.1) in
    let framed = bytes_split (x.0.0 + 1) x.0.1 y.0.1 y.0.0 (refused_as_ok as_short (bytes_at (x.0.0 + 1) x.0.1) y.0 y.1) in
    let are_after = IsBytes-after y.0.0 (left y.0.1) (left x.0.1) framed.1 (IsBytes-after size.0 (left x.0.1) part size.2 are) in
    let kept = number_found w32 wide32 y.0.1 z.0.1 z.0.0 are_after (refused_as_ok as_short (number_at w32 y.0.1) z.0 z.1) in
    let encoding = xor_found (get_or y.0.0 0 0) (drop 1 y.0.0) content tested.1 in
    let framed_is : y.0.0 ≡ xor ∷ content = one_in_front y.0.0 content (omega (arith, framed.0)) encoding.0 encoding.1 in
    let sum : z.0.0 ≡ crc (xor ∷ content) = eqb-true z.0.0 (crc y.0.0) tested.0 ∙ ap crc framed_is in
    let many : x.0.0 ≡ length content = omega (arith, framed.0, ap length framed_is) in
    let text : IsChunk (size.0 ++ (xor ∷ content) ++ kept.0) content = record {
      size = size.0;
      sum = kept.0;
      size_is = subst (IsUvarint size.0) many size.1;
      sum_is = subst (IsFixed w32 kept.0) sum kept.1;
      text_is = refl;
    } in
    (left z.0.1, (size.0 ++ (xor ∷ content) ++ kept.0, text, four_parts part size.0 (xor ∷ content) kept.0 (left x.0.1) (left y.0.1) (left z.0.1) size.2 (framed.1 ∙ ap (λ (a : List ℕ). a ++ left y.0.1) framed_is) kept.2))

pub chunk_again : (part content : List ℕ) → IsFront part content → chunk_at part ≡ Ok content
unfolding chunk_at
chunk_again part content h =
    let after = h.0 in
    let is = h.1.1 in
    let whole : part ≡ is.size ++ ((xor ∷ content) ++ (is.sum ++ after)) =
    h.1.2 ∙ ap (λ (a : List ℕ). a ++ after) is.text_is ∙ append_assoc (is.size ++ (xor ∷ content)) is.sum after ∙ append_assoc is.size (xor ∷ content) (is.sum ++ after) in
    let p = further (length is.size) (start part) in
    let rest : left p ≡ (xor ∷ content) ++ (is.sum ++ after) = left_after is.size ((xor ∷ content) ++ (is.sum ++ after)) (start part) whole in
    let q = further (length content + 1) p in
    let len : length (xor ∷ content) ≡ length content + 1 = omega arith in
    let more : left q ≡ is.sum ++ after = left-further (length content + 1) p ∙ ap (drop (length content + 1)) rest ∙ drop_at (xor ∷ content) (is.sum ++ after) (length content + 1) len in
    let size = uvarint_again (start part) is.size (length content) ((xor ∷ content) ++ (is.sum ++ after)) is.size_is whole in
    let framed = bytes_again (length content + 1) p (xor ∷ content) (is.sum ++ after) len rest in
    let kept = number_again w32 wide32 q is.sum (crc (xor ∷ content)) after is.sum_is more in
    rw (size, framed, kept, eq-eqb (crc (xor ∷ content)) (crc (xor ∷ content)) refl) refl

pub header_found : (segment : List ℕ) → IsBytes segment → header_at segment ≡ Ok tt → IsSegment segment
unfolding header_at
header_found segment are e =
    let x = bind_ok (refused_as (λ _. BadMagic) (number_at w32 (start segment))) _ tt e in
    let tested = unless_ok (x.0.0 == magic) BadMagic _ tt x.2 in
    let y = bind_ok (refused_as (λ _. BadVersion) (number_at w8 x.0.1)) _ tt tested.1 in
    let first = number_found w32 wide32 (start segment) x.0.1 x.0.0 are (refused_as_ok (λ _. BadMagic) (number_at w32 (start segment)) x.0 x.1) in
    let next = number_found w8 wide8 x.0.1 y.0.1 y.0.0 (IsBytes-after first.0 (left x.0.1) segment first.2 are) (refused_as_ok (λ _. BadVersion) (number_at w8 x.0.1) y.0 y.1) in
    record {
      after_magic = left x.0.1;
      after = left y.0.1;
      begins = subst (λ (n : ℕ). HasFront (IsFixed w32) segment n (left x.0.1)) (eqb-true x.0.0 magic tested.0) first;
      numbered = subst (λ (n : ℕ). HasFront (IsFixed w8) (left x.0.1) n (left y.0.1)) (eqb-true y.0.0 version (unless_is (y.0.0 == version) BadVersion y.2)) next;
    }

pub header_again : (segment : List ℕ) → IsSegment segment → header_at segment ≡ Ok tt
unfolding header_at
header_again segment h =
    let p = further (length h.begins.0) (start segment) in
    let rest : left p ≡ h.after_magic = left_after h.begins.0 h.after_magic (start segment) h.begins.2 in
    let first = number_again w32 wide32 (start segment) h.begins.0 magic h.after_magic h.begins.1 h.begins.2 in
    let next = number_again w8 wide8 p h.numbered.0 version h.after h.numbered.1 (rest ∙ h.numbered.2) in
    rw (first, next) refl

pub place_found : (segment : List ℕ) (offset : ℕ) (content : List ℕ) → IsBytes segment → segment_at segment offset ≡ Ok content → IsPlace segment offset content
unfolding segment_at
place_found segment offset content are e =
    let header = then_ok (header_at segment) (unless (nat_le header_size offset) Short >> chunk_at (drop offset segment)) content e in
    let behind = then_ok (unless (nat_le header_size offset) Short) (chunk_at (drop offset segment)) content header.2 in
    record {
      begins = header_found segment are header.1;
      behind = leb-true header_size offset (unless_is (nat_le header_size offset) Short behind.1);
      stands = chunk_found (drop offset segment) content (IsBytes-drop offset segment are) behind.2;
    }

pub place_again : (segment : List ℕ) (offset : ℕ) (content : List ℕ) → IsPlace segment offset content → segment_at segment offset ≡ Ok content
unfolding segment_at
place_again segment offset content h = rw (header_again segment h.begins, le-leb header_size offset h.behind) (chunk_again (drop offset segment) content h.stands)

-- data has fewer bytes than that at whose front it stands
pub front_few : (part content : List ℕ) → IsFront part content → length content ≤ length part
front_few part content h =
    let is = h.1.1 in
    omega (arith, ap length h.1.2, ap length is.text_is, length-append (is.size ++ (xor ∷ content)) is.sum, length-append is.size (xor ∷ content), length-append h.1.0 h.0)

pub place_few : (segment : List ℕ) (offset : ℕ) (content : List ℕ) → IsPlace segment offset content → length content ≤ length segment
place_few segment offset content h = omega (arith, front_few (drop offset segment) content h.stands, length-drop offset segment)

-- a place past the end
past_end : chunk_at [] ≡ Err Short
unfolding chunk_at uvarint_at groups_of
past_end = refl

pub too_far : (segment : List ℕ) (offset : ℕ) → length segment < offset → chunk_at (drop offset segment) ≡ Err Short
too_far segment offset lt = ap chunk_at (drop_all offset segment (omega arith)) ∙ past_end

-- ---- what the calls say

module _ {X : Type 0} (view : X → List ℕ) where
  pub found : (Is : List ℕ → Type 0) (r : Result X ChunkRefusal) (read : Result (List ℕ) ChunkRefusal) → ((content : List ℕ) → read ≡ Ok content → Is content) → Answers view r read → IfOk r (λ c. Is (view c))
  found Is (Ok c) read one h = one (view c) h
  found Is (Err d) read one h = tt

  pub only : (r : Result X ChunkRefusal) (read : Result (List ℕ) ChunkRefusal) (content : List ℕ) → read ≡ Ok content → Answers view r read → IsOkAnd r (λ c. view c ≡ content)
  only (Ok c) read content one h = ok_is {E = ChunkRefusal} _ _ (sym h ∙ one)
  only (Err d) read content one h = let no = sym h ∙ one in absurd cc
