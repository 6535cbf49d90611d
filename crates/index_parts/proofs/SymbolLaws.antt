-- Symbol tables against their grammar.
use Rattle.std.proofs.Common.{◌≡◌, ℕ, ◌-◌, ◌≤◌, true, List, [], ◌∷◌, ◌++◌, length, Option, Some, Ok, refl, ap, arith}
use Rattle.std.specs.Str.{is_utf8}
use Rattle.std.proofs.lemmas.List.{length-append}
use Rattle.std.proofs.lemmas.Str.{IsUtf8-from_is_utf8, is_utf8-from_IsUtf8}
use Rattle.base.specs.Order.{comes_after}
use Rattle.base.proofs.Order.{comes_after_tells}
use Rattle.base.specs.Grammar.{IsBytes, HasFront}
use Rattle.base.proofs.Binds.{bind_ok, unless_ok}
use Rattle.wire_bytes.specs.Position.{Position, left}
use Rattle.wire_bytes.specs.FieldTexts.{IsUvarint, IsGroups}
use Rattle.label_sets.specs.Labels.{compare_texts}
use Rattle.index_parts.specs.declared.refusal.PartRefusal.TheVariants.{Unordered, NotText}
use Rattle.index_parts.specs.Placed.{text_at}
use Rattle.index_parts.specs.Framed.{IsText}
use Rattle.index_parts.specs.Symbols.{IsNextSymbol}
use Rattle.index_parts.specs.SymbolsReading.{symbol_at}
use Rattle.index_parts.proofs.FieldLaws.{long_field, IsLong}
use Rattle.index_parts.proofs.TurnLaws.{turn_found}
use Rattle.index_parts.proofs.ListLaws.{IsTurnOf}

-- a text that is UTF-8 behind its length
pub text_is : (bytes text : List ℕ) → IsLong bytes text → is_utf8 text ≡ true → IsText bytes text
text_is _ _ is e = record { size = is.size; size_is = is.size_is; utf8 = IsUtf8-from_is_utf8 _ e; bytes_are = is.text_is }

pub long_is : (bytes text : List ℕ) → IsText bytes text → IsLong bytes text
long_is _ _ is = record { size = is.size; size_is = is.size_is; text_is = is.bytes_are }

-- a length takes a byte at least
some_groups : (text : List ℕ) (n : ℕ) → IsGroups text n → 1 ≤ length text
some_groups [] n is = absurd is
some_groups (x ∷ xs) n is = omega arith

pub uvarint_size : (text : List ℕ) (n : ℕ) → IsUvarint text n → 1 ≤ length text
uvarint_size _ n is = some_groups _ n is.groups

pub text_size : (bytes text : List ℕ) → IsText bytes text → 1 ≤ length bytes
text_size _ text is = let one = uvarint_size _ _ is.size_is in omega (arith, ap length is.bytes_are, length-append is.size text)

found : (before : Option (List ℕ)) (p : Position) (x : List ℕ) (t : Option (List ℕ) × Position) → IsBytes (left p) → symbol_at (before, p) ≡ Ok (x, t) → HasFront (IsNextSymbol before) (left p) x (left t.1) × (t.0 ≡ Some x)
unfolding symbol_at
found before p x t are e =
    let symbol = bind_ok (text_at p) _ _ e in
    let s = symbol.0.0 in
    let q = symbol.0.1 in
    let ordered = unless_ok (comes_after compare_texts before s) (Unordered p.place) _ _ symbol.2 in
    let utf8 = unless_ok (is_utf8 s) (NotText (q.place - length s)) _ _ ordered.1 in
    let front = long_field.found p q s are symbol.1 in
    turn_found IsNextSymbol before p q front.0 s x t (record { text_is = text_is front.0 s front.1 utf8.0; ascends = (comes_after_tells compare_texts before s).0 ordered.0 }) front.2 utf8.1

again : (before : Option (List ℕ)) (p : Position) (text x after : List ℕ) → IsNextSymbol before text x → left p ≡ text ++ after → (q : Position) × (symbol_at (before, p) ≡ Ok (x, (Some x, q))) × (left q ≡ after)
unfolding symbol_at
again before p text x after is e =
    let symbol = long_field.again p text x after (long_is text x is.text_is) e in
    (symbol.0, rw (symbol.1, (comes_after_tells compare_texts before x).1 is.ascends, is_utf8-from_IsUtf8 x is.text_is.utf8) refl, symbol.2)

pub symbol_turn : IsTurnOf IsNextSymbol symbol_at
symbol_turn = record { found = found; again = again }

pub symbol_size : (before : Option (List ℕ)) (text x : List ℕ) → IsNextSymbol before text x → 1 ≤ length text
symbol_size _ _ x is = text_size _ x is.text_is
