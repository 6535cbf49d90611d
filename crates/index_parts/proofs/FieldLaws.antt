-- Fields against their texts: what is read is a text of the value, and each text is read, whatever follows.
use Rattle.std.proofs.Common.{◌≡◌, ℕ, List, ◌++◌, length, drop, Result, Ok, refl, sym, ap, subst, ◌∙◌, append_assoc}
use Rattle.std.specs.Int.{Width}
use Rattle.std.proofs.lemmas.List.{drop_at}
use Rattle.base.specs.Grammar.{IsBytes, HasFront}
use Rattle.base.proofs.Binds.{bind_ok, refused_as_ok}
use Rattle.wire_bytes.specs.Position.{Position, left, further}
use Rattle.wire_bytes.specs.Fields.{bytes_at, number_at, uvarint_at, varint_at}
use Rattle.wire_bytes.specs.FieldTexts.{IsFixed, IsUvarint, IsVarint}
use Rattle.wire_bytes.specs.declared.varint.WireRefusal.{WireRefusal}
use Rattle.wire_bytes.proofs.FieldLaws.{left-further, left_after, uvarint_found, uvarint_again, varint_found, varint_again}
use Rattle.wire_bytes.proofs.FixedLaws.{IsWide, number_found, number_again}
use Rattle.index_parts.specs.declared.refusal.PartRefusal.{PartRefusal}
use Rattle.index_parts.specs.Placed.{field, text_at}
use Rattle.wire_bytes.proofs.ByteFields.{bytes_split, bytes_again}

-- a way to read, and the texts that it reads
pub record IsFieldOf {A : Type 0} (IsText : List ℕ → A → Type 0) (read : Position → Result (A × Position) PartRefusal) : Type 0 where
  pub found : (p q : Position) (x : A) → IsBytes (left p) → read p ≡ Ok (x, q) → HasFront IsText (left p) x (left q)
  pub again : (p : Position) (text : List ℕ) (x : A) (after : List ℕ) → IsText text x → left p ≡ text ++ after → (q : Position) × (read p ≡ Ok (x, q)) × (left q ≡ after)

pub placed_ok : {A : Type 0} (read : Position → Result (A × Position) WireRefusal) (p q : Position) (x : A) → field read p ≡ Ok (x, q) → read p ≡ Ok (x, q)
placed_ok _ p q x e = refused_as_ok _ _ _ e

placed_is : {A : Type 0} (read : Position → Result (A × Position) WireRefusal) (p q : Position) (x : A) → read p ≡ Ok (x, q) → field read p ≡ Ok (x, q)
placed_is _ p q x e = rw e refl

pub uvarint_field : IsFieldOf IsUvarint (field uvarint_at)
uvarint_field = record {
  found = λ p q n are e. uvarint_found p q n are (placed_ok uvarint_at p q n e);
  again = λ p text n after is e. (further (length text) p, placed_is uvarint_at p _ n (uvarint_again p _ n _ is e), left_after _ _ p e);
}

pub varint_field : IsFieldOf IsVarint (field varint_at)
varint_field = record {
  found = λ p q z are e. varint_found p q z are (placed_ok varint_at p q z e);
  again = λ p text z after is e. (further (length text) p, placed_is varint_at p _ z (varint_again p _ z _ is e), left_after _ _ p e);
}

pub fixed_field : (w : Width) → IsWide w → IsFieldOf (IsFixed w) (field (number_at w))
fixed_field w wide = record {
  found = λ p q n are e. number_found w wide p q n are (placed_ok (number_at w) p q n e);
  again = λ p text n after is e. (further (length text) p, placed_is (number_at w) p _ n (number_again w wide p _ n _ is e), left_after _ _ p e);
}

-- ---- bytes

-- bytes behind their length
pub record IsLong (text bytes : List ℕ) : Type 0 where
  pub size : List ℕ
  pub size_is : IsUvarint size (length bytes)
  pub text_is : text ≡ size ++ bytes

text_found : (p q : Position) (bytes : List ℕ) → IsBytes (left p) → text_at p ≡ Ok (bytes, q) → HasFront IsLong (left p) bytes (left q)
unfolding text_at
text_found p q bytes are e =
    let x = bind_ok _ _ _ e in
    let size = uvarint_field.found p x.0.1 x.0.0 are x.1 in
    let front = bytes_split x.0.0 x.0.1 q _ (placed_ok (bytes_at x.0.0) x.0.1 q _ x.2) in
    let long : IsLong (size.0 ++ bytes) bytes = record { size = size.0; size_is = subst (IsUvarint size.0) (sym front.0) size.1; text_is = refl } in
    (size.0 ++ bytes, long, size.2 ∙ ap (λ a. size.0 ++ a) front.1 ∙ sym (append_assoc size.0 bytes (left q)))

text_again : (p : Position) (text bytes after : List ℕ) → IsLong text bytes → left p ≡ text ++ after → (q : Position) × (text_at p ≡ Ok (bytes, q)) × (left q ≡ after)
unfolding text_at
text_again p _ bytes after is e =
    let whole = e ∙ ap (λ a. a ++ after) is.text_is ∙ append_assoc is.size bytes after in
    let size = uvarint_field.again p is.size (length bytes) (bytes ++ after) is.size_is whole in
    let front = bytes_again _ size.0 bytes after refl size.2 in
    (further (length bytes) size.0, rw (size.1, front) refl, left-further (length bytes) size.0 ∙ ap (drop (length bytes)) size.2 ∙ drop_at bytes after (length bytes) refl)

pub long_field : IsFieldOf IsLong text_at
long_field = record { found = text_found; again = text_again }
