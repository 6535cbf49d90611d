-- Tests of ranges.
use Rattle.base.proofs.SignedRanges.{fits_from_test, test_from_fits}
use Rattle.std.proofs.Common.{◌≡◌, ◌^◌, ◌<◌, true, false, arith, rules, ℤ, pos, negsuc}
use Rattle.std.specs.Int.{w64, FitsUnsigned}
use Rattle.std.proofs.lemmas.Int.{ints}
use Rattle.std.specs.Int.RustNames.{FitsSigned}
use Rattle.std.proofs.lemmas.Bool.{ltb-true, lt-ltb, false_from_ne_true}
use Rattle.base.specs.Decimal.{fits_signed}
use Rattle.index_parts.specs.SeriesReading.{fits_unsigned}

pub signed_fails : (n : ℤ) → ¬ FitsSigned w64 n → fits_signed n ≡ false
signed_fails n large = false_from_ne_true _ (λ e. large (fits_from_test n e))

pub unsigned_from_test : (n : ℤ) → fits_unsigned n ≡ true → FitsUnsigned w64 n
unsigned_from_test (pos n) e = let lt = ltb-true n (2 ^ 64) e in (search rules, search rules)
unsigned_from_test (negsuc n) e = absurd cc

pub unsigned_test : (n : ℤ) → FitsUnsigned w64 n → fits_unsigned n ≡ true
unsigned_test (pos n) fits = let high = fits.1 in let lt : n < 2 ^ 64 = omega (arith, ints, high) in lt-ltb n (2 ^ 64) lt
unsigned_test (negsuc n) fits = let low = fits.0 in absurd (omega arith)

pub unsigned_fails : (n : ℤ) → ¬ FitsUnsigned w64 n → fits_unsigned n ≡ false
unsigned_fails n large = false_from_ne_true _ (λ e. large (unsigned_from_test n e))

pub ruleset signed_tests = (test_from_fits, signed_fails)

pub ruleset unsigned_tests = (unsigned_test, unsigned_fails)
