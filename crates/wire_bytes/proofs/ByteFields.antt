-- Bytes of a known length at a position: what is read of them, and that they are read.
use Rattle.std.proofs.Common.{◌≡◌, ℕ, ◌≤◌, List, ◌++◌, length, take, drop, Ok, refl, sym, ap, ◌∙◌, arith}
use Rattle.std.proofs.lemmas.Bool.{ltb-false, le-ltb}
use Rattle.std.proofs.lemmas.List.{take-append-drop, take_at, length-append, length-take}
use Rattle.base.proofs.Binds.{cond_ok, ok_is}
use Rattle.wire_bytes.specs.declared.varint.WireRefusal.{WireRefusal}
use Rattle.wire_bytes.specs.Position.{Position, left, further}
use Rattle.wire_bytes.specs.Fields.{bytes_at}
use Rattle.wire_bytes.proofs.FieldLaws.{left-further}

-- what is read is the front of what was left, and the position moves behind it
pub bytes_parts : (count : ℕ) (p q : Position) (bytes : List ℕ) → bytes_at count p ≡ Ok (bytes, q) → (count ≤ length (left p)) × (take count (left p) ≡ bytes) × (further count p ≡ q)
unfolding bytes_at
bytes_parts _ p q _ e =
    let g = cond_ok _ _ _ _ e in
    let same = ok_is {E = WireRefusal} _ _ g.1 in
    (ltb-false _ _ g.0, ap (λ y. y.0) same, ap (λ y. y.1) same)

-- the same by its length and by what is left afterwards
pub bytes_split : (count : ℕ) (p q : Position) (bytes : List ℕ) → bytes_at count p ≡ Ok (bytes, q) → (length bytes ≡ count) × (left p ≡ bytes ++ left q)
bytes_split count p q bytes e =
    let x = bytes_parts count p q _ e in (
      omega (arith, ap length x.1, length-take count (left p), x.0),
      sym (take-append-drop _ _) ∙ ap (λ front. front ++ drop count (left p)) x.1 ∙ ap (λ others. bytes ++ others) (sym (left-further _ p) ∙ ap left x.2),
    )

-- a text of that length in front is read
pub bytes_again : (count : ℕ) (p : Position) (text after : List ℕ) → length text ≡ count → left p ≡ text ++ after → bytes_at count p ≡ Ok (text, further count p)
unfolding bytes_at
bytes_again count p text after len e = rw (le-ltb (length (left p)) count (omega (arith, ap length e, length-append text after)), e, take_at) refl
