-- Decimal texts of so few digits that their numbers fit into every integer of 64 bits.
use Rattle.std.proofs.Common.{◌≡◌, ℕ, ◌^◌, ◌<◌, ◌≤◌, true, List, length, Ok, sym, ap, ◌∙◌, subst, arith, ℤ, pos}
use Rattle.std.specs.Char.{is_ascii_digit}
use Rattle.std.specs.Int.{w64}
use Rattle.std.specs.Int.RustNames.{FitsSigned}
use Rattle.std.specs.List.{list_all}
use Rattle.std.specs.Str.Parse.{digits_value, signed_digits_value}
use Rattle.std.proofs.lemmas.Bool.{lt-ltb}
use Rattle.std.proofs.lemmas.Str.Parse.{digits_value_short}
use Rattle.base.specs.Decimal.{is_decimal, unsigned_of, signed_of}
use Rattle.base.proofs.Decimals.{digits_are_numerals, decimal_digits}
use Rattle.base.proofs.Parsed.{fits as unsigned_fits}
use Rattle.base.proofs.ParsedSigned.{fits as signed_fits}
use Rattle.base.proofs.SignedDecimals.{plain_again}
use Rattle.base.proofs.SignedRanges.{fits_from_test}

pub digits_of_decimal : (text : List ℕ) → is_decimal text ≡ true → list_all is_ascii_digit text ≡ true
digits_of_decimal text e = (decimal_digits text e).1

pub few_small : (text : List ℕ) → is_decimal text ≡ true → length text ≤ 15 → digits_value 10 text < 2 ^ 63
few_small text e few =
    let small : digits_value 10 text < 10 ^ 15 = digits_value_short digits_are_numerals text 15 (digits_of_decimal text e) few in
    omega arith

-- what is made of few digits is what reading gives
pub few_unsigned : (text bytes : List ℕ) (n : ℕ) → bytes ≡ text → is_decimal bytes ≡ true → n ≡ digits_value 10 bytes → n < 2 ^ 63 → Ok n ≡ unsigned_of text
few_unsigned text bytes n same e is small =
    ap Ok is ∙ sym (unsigned_fits bytes e (omega arith)) ∙ ap unsigned_of same

pub few_signed : (text bytes : List ℕ) (n : ℕ) (z : ℤ) → bytes ≡ text → z ≡ pos n → is_decimal bytes ≡ true → n ≡ digits_value 10 bytes → n < 2 ^ 63 → Ok z ≡ signed_of text
few_signed text bytes n z same positive e is small =
    let p = plain_again bytes e in
    let value : signed_digits_value 10 bytes ≡ pos n = p.1 ∙ ap pos (sym is) in
    let in_range : FitsSigned w64 (pos n) = fits_from_test (pos n) (lt-ltb n (2 ^ 63) small) in
    ap Ok (positive ∙ sym value) ∙ sym (signed_fits bytes p.0 (subst (FitsSigned w64) (sym value) in_range)) ∙ ap signed_of same
