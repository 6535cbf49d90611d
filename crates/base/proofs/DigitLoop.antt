-- The value of decimal digits, digit by digit.
use Rattle.std.proofs.Common.{◌≡◌, ℕ, ◌+◌, ◌-◌, ◌*◌, ◌^◌, ◌<◌, ◌≤◌, true, List, length, take, get_or, refl, arith}
use Rattle.std.specs.Char.{is_ascii_digit, digit_value}
use Rattle.std.specs.Int.{IsInRange}
use Rattle.std.specs.List.{list_all}
use Rattle.std.specs.Str.Parse.{digits_value}
use Rattle.std.proofs.lemmas.Bool.Decides.{nat_tests}
use Rattle.std.proofs.lemmas.Int.Digits.{digits_value_more}
use Rattle.std.proofs.lemmas.Str.Parse.{digits_value_short, digits_value-take-le, digit_at}
use Rattle.base.proofs.Decimals.{digits_are_numerals}

digit_value-range : (c : ℕ) → IsInRange 48 57 c → digit_value c ≡ c - 48
digit_value-range c range = grind (arith, nat_tests)

pub value_at : (digits : List ℕ) (i number : ℕ) → list_all is_ascii_digit digits ≡ true → length digits ≤ 15 → i < length digits → number ≡ digits_value 10 (take i digits)
    → (48 ≤ get_or digits i 0) × (number * 10 + (get_or digits i 0 - 48) ≡ digits_value 10 (take (i + 1) digits)) × (number * 10 + (get_or digits i 0 - 48) < 2 ^ 64)
value_at digits i number all short low so_far =
    let range : IsInRange 48 57 (get_or digits i 0) = digit_at digits i (digits_are_numerals.to digits all) low in
    let value = digit_value-range (get_or digits i 0) range in
    let more = digits_value_more 10 digits i low in
    let next : number * 10 + (get_or digits i 0 - 48) ≡ digits_value 10 (take (i + 1) digits) = rw (more, so_far, value) refl in
    let front = digits_value-take-le 10 digits (i + 1) (omega arith) in
    let small : digits_value 10 digits < 10 ^ 15 = digits_value_short digits_are_numerals digits 15 all short in
    (range.0, next, omega arith)
