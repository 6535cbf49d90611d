-- Numbers, counted bytes, texts and keys: what is read stands there, and what stands there is read.
use Rattle.std.proofs.Common.{◌≡◌, ℕ, List, ◌++◌, length, Option, Some, None, Ok, refl, sym, ap, subst, ◌∙◌}
use Rattle.std.specs.Int.{Width, w8, w32, w64}
use Rattle.std.specs.Str.{is_utf8}
use Rattle.std.proofs.lemmas.Str.{IsUtf8-from_is_utf8, is_utf8-from_IsUtf8}
use Rattle.base.specs.Reading.{◌>>=◌, ◌>>◌, unless, refused_as}
use Rattle.base.specs.Grammar.{IsBytes}
use Rattle.base.proofs.Binds.{bind_ok, unless_ok, ok_is, refused_as_ok}
use Rattle.wire_bytes.specs.Position.{Position, left, further}
use Rattle.wire_bytes.specs.Fields.{number_at, bytes_at}
use Rattle.wire_bytes.specs.FieldTexts.{IsFixed}
use Rattle.wire_bytes.proofs.FixedLaws.{IsWide, wide8, wide32, wide64, number_found, number_again}
use Rattle.wire_bytes.proofs.ByteFields.{bytes_parts, bytes_split, bytes_again}
use Rattle.block_keys.specs.KeyText.{key_of}
use Rattle.block_keys.specs.declared.key.Key.{Key}
use Rattle.block_keys.proofs.KeyLaws.{key_of-found, key_of-only, IsUtf8-key_text}
use Rattle.journal_records.specs.declared.cause.RecordCause.{RecordCause}
use Rattle.journal_records.specs.declared.cause.RecordCause.TheVariants.{Short, BadText, BadKey}
use Rattle.journal_records.specs.FieldReading.{At, field, byte_at, small_at, large_at, blob_at, text_at, key_or, key_at}
use Rattle.journal_records.specs.RecordText.{Field, IsByte, IsSmall, IsLarge, IsBlob, IsText, IsKey}
use Rattle.journal_records.proofs.KeptBytes.{number_moves}
use Rattle.journal_records.proofs.Standing.{Stands, Reads, Ties, step, goes, join}

-- ---- numbers

module _ (w : Width) (wide : IsWide w) where
  number_stands : (p : Position) (r : ℕ × Position) → IsBytes (left p) → number_at w p ≡ Ok r → Stands (λ bytes. IsFixed w bytes r.0) p r.1
  number_stands p r are e =
      let is = number_found w wide p r.1 r.0 are e in
      (is.0, is.1, is.2, ap (λ (n : ℕ). further n p) (ap length is.1.digits ∙ wide.len r.0) ∙ number_moves w p r.1 r.0 e)

  pub number_tied : Ties (field (number_at w)) (λ n bytes. IsFixed w bytes n)
  number_tied = record {
    found = λ p r are e. number_stands p r are (refused_as_ok _ _ r e);
    again = λ n p bytes after is e. ap (refused_as (λ refusal. Short p.place)) (number_again w wide p bytes n after is e);
  }

pub byte_tied : Ties byte_at IsByte
byte_tied = number_tied w8 wide8

pub small_tied : Ties small_at IsSmall
small_tied = number_tied w32 wide32

pub large_tied : Ties large_at IsLarge
large_tied = number_tied w64 wide64

-- ---- counted bytes

abbrev pub These : List ℕ → Field
These blob = λ bytes. bytes ≡ blob

bytes_stand : (count : ℕ) (p : Position) (r : List ℕ × Position) → field (bytes_at count) p ≡ Ok r → (length r.0 ≡ count) × Stands (These r.0) p r.1
bytes_stand count p r e =
    let is : bytes_at count p ≡ Ok r = refused_as_ok _ _ r e in
    let parts = bytes_parts count p r.1 r.0 is in
    let split = bytes_split count p r.1 r.0 is in
    (split.0, (r.0, refl, split.1, ap (λ (n : ℕ). further n p) split.0 ∙ parts.2))

bytes_read : (blob : List ℕ) → Reads (λ p. field (bytes_at (length blob)) p) (These blob) blob
bytes_read blob p bytes after is e =
    let whole : left p ≡ blob ++ after = e ∙ ap (λ (t : List ℕ). t ++ after) is in
    ap (refused_as (λ refusal. Short p.place)) (bytes_again (length blob) p blob after refl whole)
    ∙ ap (λ (t : List ℕ). Ok (blob, further (length t) p)) (sym is)

-- a count and so many bytes
counted_stands : (p q : Position) (size : ℕ) (r : List ℕ × Position) → Stands (IsSmall size) p q → field (bytes_at size) q ≡ Ok r → Stands (IsBlob r.0) p r.1
counted_stands p q size r first e =
    let bytes = bytes_stand size q r e in
    join (IsSmall (length r.0)) (These r.0) p q r.1 (subst (λ (n : ℕ). Stands (IsSmall n) p q) (sym bytes.0) first) bytes.1

blob_stands : (p : Position) (r : List ℕ × Position) → IsBytes (left p) → blob_at p ≡ Ok r → Stands (IsBlob r.0) p r.1
unfolding blob_at
blob_stands p r are e =
    let size = step small_at IsSmall (λ s. field (bytes_at s.0) s.1) p r small_tied are e in
    counted_stands p size.0.1 size.0.0 r size.1 size.3

blob_read : (blob : List ℕ) → Reads blob_at (IsBlob blob) blob
unfolding blob_at
blob_read blob = goes small_at (IsSmall (length blob)) (length blob) (λ s. field (bytes_at s.0) s.1) (These blob) blob (small_tied.again (length blob)) (bytes_read blob)

pub blob_tied : Ties blob_at IsBlob
blob_tied = record { found = blob_stands; again = blob_read }

-- ---- texts

-- what is tested of the bytes behind a count leaves them there
tested_read : {A : Type 0} (next : Position → List ℕ × Position → At A) (text : List ℕ) (x : A) (p : Position) (bytes after : List ℕ)
    → ((q : Position) → next q (text, further (length text) q) ≡ Ok (x, further (length text) q)) → IsBlob text bytes → left p ≡ bytes ++ after
    → (small_at p >>= λ s. (field (bytes_at s.0) s.1 >>= λ t. next s.1 t)) ≡ Ok (x, further (length bytes) p)
tested_read next text x p bytes after goes_on is e =
    goes small_at (IsSmall (length text)) (length text) (λ s. field (bytes_at s.0) s.1 >>= λ t. next s.1 t) (These text) x (small_tied.again (length text))
    (λ q own behind same whole. let read = bytes_read text q own behind same whole in let len = ap length same in rw (read, len) (goes_on q))
    p bytes after is e

text_stands : (p : Position) (r : List ℕ × Position) → IsBytes (left p) → text_at p ≡ Ok r → Stands (IsText r.0) p r.1
unfolding text_at
text_stands p r are e =
    let size = step small_at IsSmall _ p r small_tied are e in
    let text = bind_ok (field (bytes_at size.0.0) size.0.1) _ r size.3 in
    let tested = unless_ok (is_utf8 text.0.0) (BadText size.0.1.place) _ r text.2 in
    let same : text.0 ≡ r = ok_is {E = RecordCause} _ _ tested.1 in
    let blob = counted_stands p size.0.1 size.0.0 text.0 size.1 text.1 in
    subst (λ (y : List ℕ × Position). Stands (IsText y.0) p y.1) same (blob.0, (IsUtf8-from_is_utf8 _ tested.0, blob.1), blob.2, blob.3)

text_read : (text : List ℕ) → Reads text_at (IsText text) text
unfolding text_at
text_read text p bytes after is e =
    let utf8 = is_utf8-from_IsUtf8 text is.0 in
    tested_read (λ q t. unless (is_utf8 t.0) (BadText q.place) >> Ok t) text text p bytes after (λ q. rw utf8 refl) is.1 e

pub text_tied : Ties text_at IsText
text_tied = record { found = text_stands; again = text_read }

-- ---- keys

key_is : (o : Option Key) (cause : RecordCause) (key : Key) → key_or o cause ≡ Ok key → o ≡ Some key
key_is (Some other) cause key e = cc
key_is None cause key e = absurd cc

key_stands : (p : Position) (r : Key × Position) → IsBytes (left p) → key_at p ≡ Ok r → Stands (IsKey r.0) p r.1
unfolding key_at
key_stands p r are e =
    let size = step small_at IsSmall _ p r small_tied are e in
    let text = bind_ok (field (bytes_at size.0.0) size.0.1) _ r size.3 in
    let tested = unless_ok (is_utf8 text.0.0) (BadText size.0.1.place) _ r text.2 in
    let key = bind_ok (key_or (key_of text.0.0) (BadKey size.0.1.place)) _ r tested.1 in
    let same : (key.0, text.0.1) ≡ r = ok_is {E = RecordCause} _ _ key.2 in
    let blob = counted_stands p size.0.1 size.0.0 text.0 size.1 text.1 in
    let named = key_of-found text.0.0 key.0 (key_is _ _ key.0 key.1) in
    subst (λ (y : Key × Position). Stands (IsKey y.0) p y.1) same (blob.0, (text.0.0, named, blob.1), blob.2, blob.3)

key_read : (key : Key) → Reads key_at (IsKey key) key
unfolding key_at
key_read key p bytes after is e =
    let utf8 = is_utf8-from_IsUtf8 is.0 (IsUtf8-key_text is.0 key is.1) in
    let named = key_of-only is.0 key is.1 in
    tested_read (λ q t. unless (is_utf8 t.0) (BadText q.place) >> (key_or (key_of t.0) (BadKey q.place) >>= λ k. Ok (k, t.1))) is.0 key p bytes after (λ q. rw (utf8, named) refl) is.2 e

pub key_tied : Ties key_at IsKey
key_tied = record { found = key_stands; again = key_read }
