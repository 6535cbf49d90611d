-- What is appended stands at its place.
use Rattle.std.proofs.Common.{◌≡◌, ℕ, ◌/◌, ◌<◌, ◌≤◌, List, [], ◌∷◌, ◌++◌, length, drop, refl, sym, ap, subst, ◌∙◌, append_assoc, length-append, arith}
use Rattle.std.specs.Int.{w32, to_be_bytes}
use Rattle.std.proofs.lemmas.Bool.{le-ltb, lt-ltb}
use Rattle.std.proofs.lemmas.List.{drop_at, append-nil, length-drop, drop-append-le}
use Rattle.wire_bytes.specs.Written.{groups_text, uvarint_text}
use Rattle.chunk_files.specs.Layout.{magic, version, xor}
use Rattle.chunk_files.specs.Chunk.{IsChunk, IsSegment, IsPlace, IsFilled, header}

segment_more : (bytes more : List ℕ) → IsSegment bytes → IsSegment (bytes ++ more)
segment_more bytes more h = record {
  after_magic = h.after_magic ++ more;
  after = h.after ++ more;
  begins = (h.begins.0, h.begins.1, ap (λ (a : List ℕ). a ++ more) h.begins.2 ∙ append_assoc h.begins.0 h.after_magic more);
  numbered = (h.numbered.0, h.numbered.1, ap (λ (a : List ℕ). a ++ more) h.numbered.2 ∙ append_assoc h.numbered.0 h.after more);
}

appended : (bytes frame content : List ℕ) → IsFilled bytes → IsChunk frame content → IsPlace (bytes ++ frame) (length bytes) content
appended bytes frame content h is = record {
  begins = segment_more bytes frame h.begins;
  behind = h.low;
  stands = ([], (frame, is, drop_at bytes frame (length bytes) refl ∙ sym (append-nil frame)));
}

pub begun : IsFilled header
begun = record {
  begins = record {
    after_magic = version ∷ 0 ∷ 0 ∷ 0 ∷ [];
    after = 0 ∷ 0 ∷ 0 ∷ [];
    begins = (to_be_bytes w32 magic, record { digits = refl; fits = omega arith }, refl);
    numbered = (version ∷ [], record { digits = refl; fits = omega arith }, refl);
  };
  low = omega arith;
  high = omega arith;
}

-- ---- how many bytes a length takes

pub size_1 : (n : ℕ) → n < 128 → length (uvarint_text n) ≡ 1
unfolding groups_text
size_1 n lt = rw (lt-ltb n 128 lt) refl

pub size_2 : (n : ℕ) → 128 ≤ n → n < 16384 → length (uvarint_text n) ≡ 2
unfolding groups_text
size_2 n le lt = rw (le-ltb n 128 le, lt-ltb (n / 128) 128 (omega arith)) refl

pub size_3 : (n : ℕ) → 16384 ≤ n → n < 2097152 → length (uvarint_text n) ≡ 3
unfolding groups_text
size_3 n le lt = rw (le-ltb n 128 (omega arith), le-ltb (n / 128) 128 (omega arith), lt-ltb (n / 128 / 128) 128 (omega arith)) refl

pub size_4 : (n : ℕ) → 2097152 ≤ n → n < 268435456 → length (uvarint_text n) ≡ 4
unfolding groups_text
size_4 n le lt = rw (le-ltb n 128 (omega arith), le-ltb (n / 128) 128 (omega arith), le-ltb (n / 128 / 128) 128 (omega arith), lt-ltb (n / 128 / 128 / 128) 128 (omega arith)) refl

pub ruleset sizes = (size_1, size_2, size_3, size_4)

pub placed : (old new frame text content : List ℕ) (offset : ℕ) → IsFilled old → IsChunk text content → frame ≡ text → new ≡ old ++ frame → offset ≡ length old → IsPlace new offset content
placed old new frame text content offset h is e n o =
    let here : new ≡ old ++ text = n ∙ ap (λ (a : List ℕ). old ++ a) e in
    subst (λ (k : ℕ). IsPlace new k content) (sym o) (subst (λ (a : List ℕ). IsPlace a (length old) content) (sym here) (appended old text content h is))

-- What stood at a place stands there when more is appended.

earlier : (bytes more content : List ℕ) (place : ℕ) → IsPlace bytes place content → IsPlace (bytes ++ more) place content
earlier bytes more content place h =
    let after = h.stands.0 in
    let text = h.stands.1.0 in
    let is = h.stands.1.1 in
    let here : drop place bytes ≡ text ++ after = h.stands.1.2 in
    let within : place ≤ length bytes = omega (arith, length-drop place bytes, ap length here, length-append text after, ap length is.text_is, length-append (is.size ++ (xor ∷ content)) is.sum, length-append is.size (xor ∷ content)) in
    record {
      begins = segment_more bytes more h.begins;
      behind = h.behind;
      stands = (after ++ more, (text, is, drop-append-le place bytes more within ∙ ap (λ (a : List ℕ). a ++ more) here ∙ append_assoc text after more));
    }

pub still : (old new frame content : List ℕ) (place : ℕ) → new ≡ old ++ frame → IsPlace old place content → IsPlace new place content
still old new frame content place n h = subst (λ (a : List ℕ). IsPlace a place content) (sym n) (earlier old frame content place h)
