-- What std and `itoa` print is the text of the number.
use Rattle.std.proofs.Common.{◌≡◌, ℕ, zero, suc, ◌^◌, ◌<◌, ◌∷◌, ap, arith, ℤ, pos, negsuc}
use Rattle.std.specs.Fmt.{decimal, signed_decimal}
use Rattle.std.specs.Int.{w64}
use Rattle.std.specs.Int.RustNames.{FitsSigned}
use Rattle.std.proofs.lemmas.Fmt.{decimal_digit, decimal-digits_of}
use Rattle.base.specs.Decimal.{decimal_text, signed_text}

pub printed : (n : ℕ) → n < 2 ^ 64 → decimal n ≡ decimal_text n
unfolding decimal_text
printed zero small = decimal_digit 0 (omega arith)
printed (suc n) small = decimal-digits_of _ (omega arith) small

pub printed_signed : (n : ℤ) → FitsSigned w64 n → signed_decimal n ≡ signed_text n
unfolding signed_text
printed_signed (pos n) small = let p = small.sfits in printed n (omega arith)
printed_signed (negsuc n) small = let p = small.sfits in ap (λ digits. 45 ∷ digits) (printed _ (omega arith))
