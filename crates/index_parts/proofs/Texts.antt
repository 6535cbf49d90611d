-- Texts behind their length.
use Rattle.std.proofs.Common.{◌≡◌, ℕ, ◌+◌, ◌≤◌, true, false, List, length, Ok, ap, arith}
use Rattle.std.proofs.lemmas.List.{length-take}
use Rattle.std.specs.Str.{IsUtf8, is_utf8}
use Rattle.std.proofs.lemmas.Bool.{false_from_ne_true}
use Rattle.std.proofs.lemmas.Str.{IsUtf8-from_is_utf8, is_utf8-from_IsUtf8}
use Rattle.base.proofs.Binds.{bind_ok}
use Rattle.wire_bytes.specs.Position.{Position, left}
use Rattle.wire_bytes.specs.Fields.{bytes_at, uvarint_at}
use Rattle.index_parts.specs.Placed.{field, text_at}
use Rattle.wire_bytes.proofs.ByteFields.{bytes_parts}
use Rattle.index_parts.proofs.FieldLaws.{placed_ok}

-- what was read stands before the place
pub text_within : (p q : Position) (bytes : List ℕ) → text_at p ≡ Ok (bytes, q) → length bytes ≤ q.place
unfolding text_at
text_within p q bytes e =
    let x = bind_ok (field uvarint_at p) _ _ e in
    let parts = bytes_parts x.0.0 x.0.1 q bytes (placed_ok (bytes_at x.0.0) x.0.1 q bytes x.2) in
    let end : x.0.1.place + x.0.0 ≡ q.place = ap (λ (r : Position). r.place) parts.2 in
    omega (arith, ap length parts.1, length-take x.0.0 (left x.0.1))

pub is_text : (bytes : List ℕ) → IsUtf8 bytes → is_utf8 bytes ≡ true
is_text _ is = is_utf8-from_IsUtf8 _ is

pub is_no_text : (bytes : List ℕ) → (IsUtf8 bytes → ⊥) → is_utf8 bytes ≡ false
is_no_text _ not = false_from_ne_true _ (λ e. not (IsUtf8-from_is_utf8 _ e))

pub ruleset utf8_tests = (is_text, is_no_text)
