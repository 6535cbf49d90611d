-- The test whether a number has 64 bits with its sign, against the fact.
use Rattle.std.proofs.Common.{◌≡◌, ◌≤ℤ◌, ℤ, pos, negsuc, unsigned_abs, true, refl, arith}
use Rattle.std.specs.Int.{w64}
use Rattle.std.specs.Int.RustNames.{FitsSigned}
use Rattle.std.proofs.lemmas.Bool.{lt-ltb, ltb-true}
use Rattle.base.specs.Decimal.{fits_signed}

pub fits_from_test : (n : ℤ) → fits_signed n ≡ true → FitsSigned w64 n
fits_from_test (pos n) e = record { sfits = ltb-true _ _ e }
fits_from_test (negsuc n) e = record { sfits = ltb-true _ _ e }

pub test_from_fits : (n : ℤ) → FitsSigned w64 n → fits_signed n ≡ true
test_from_fits (pos n) fits = lt-ltb _ _ fits.sfits
test_from_fits (negsuc n) fits = lt-ltb _ _ fits.sfits

-- a number that is not negative is its own size
pub pos-unsigned_abs : (z : ℤ) → pos 0 ≤ℤ z → pos (unsigned_abs z) ≡ z
pos-unsigned_abs (pos n) le = refl
pos-unsigned_abs (negsuc n) le = absurd (omega arith)
