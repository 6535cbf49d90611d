-- Postings lists against their grammar.
use Rattle.std.proofs.Common.{◌≡◌, ℕ, ◌≤◌, List, ◌++◌, length, Option, Some, Ok, refl, ap, arith}
use Rattle.std.specs.Ordering.{nat_cmp}
use Rattle.base.specs.Order.{comes_after}
use Rattle.base.proofs.Order.{comes_after_tells}
use Rattle.base.specs.Grammar.{IsBytes, HasFront}
use Rattle.base.proofs.Binds.{bind_ok, unless_ok}
use Rattle.wire_bytes.specs.Position.{Position, left}
use Rattle.wire_bytes.proofs.FixedLaws.{wide32}
use Rattle.index_parts.specs.declared.refusal.PartRefusal.TheVariants.{Unordered}
use Rattle.index_parts.specs.Postings.{IsNextPosting}
use Rattle.index_parts.specs.PostingsReading.{posting_at}
use Rattle.index_parts.proofs.FieldLaws.{fixed_field}
use Rattle.index_parts.proofs.TurnLaws.{turn_found}
use Rattle.index_parts.proofs.ListLaws.{IsTurnOf}

found : (before : Option ℕ) (p : Position) (x : ℕ) (t : Option ℕ × Position) → IsBytes (left p) → posting_at (before, p) ≡ Ok (x, t) → HasFront (IsNextPosting before) (left p) x (left t.1) × (t.0 ≡ Some x)
unfolding posting_at
found before p x t are e =
    let number = bind_ok _ _ _ e in
    let tested = unless_ok (comes_after nat_cmp before number.0.0) (Unordered p.place) _ _ number.2 in
    let fixed = fixed_field _ wide32 in
    let front = fixed.found _ _ _ are number.1 in
    turn_found IsNextPosting before p number.0.1 front.0 number.0.0 x t (record { text_is = front.1; rises = (comes_after_tells nat_cmp before number.0.0).0 tested.0 }) front.2 tested.1

again : (before : Option ℕ) (p : Position) (text : List ℕ) (x : ℕ) (after : List ℕ) → IsNextPosting before text x → left p ≡ text ++ after → (q : Position) × (posting_at (before, p) ≡ Ok (x, (Some x, q))) × (left q ≡ after)
unfolding posting_at
again before p text x after is e =
    let fixed = fixed_field _ wide32 in
    let number = fixed.again p text x after is.text_is e in
    (number.0, rw (number.1, (comes_after_tells nat_cmp before x).1 is.rises) refl, number.2)

pub posting_turn : IsTurnOf IsNextPosting posting_at
posting_turn = record { found = found; again = again }

pub posting_size : (before : Option ℕ) (text : List ℕ) (x : ℕ) → IsNextPosting before text x → 4 ≤ length text
posting_size _ _ x is = let e = ap length is.text_is.digits in let four = wide32.len x in omega arith
