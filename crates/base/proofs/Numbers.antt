-- Whole numbers without a sign, where the standard library has no lemma.
use Rattle.std.proofs.Common.{◌≡◌, ◌⊎◌, ℕ, suc, ◌+◌, ◌<◌, true, false, refl, arith}
use Rattle.std.specs.Prelude.{◌==◌}
use Rattle.std.proofs.lemmas.Bool.{eq-eqb}
use Rattle.std.proofs.lemmas.Bool.Decides.{nat_tests}

pub one_more_is : (n : ℕ) → 1 + n ≡ suc n
one_more_is n = omega arith

pub equals_itself : (n : ℕ) → (n == n) ≡ true
equals_itself n = eq-eqb n n refl

pub above_zero : (n : ℕ) → (n == 0) ≡ false → 0 < n
above_zero n e = grind (arith, nat_tests)

-- what is below the next number is below this one, or is this one
pub last_or_below : (k n : ℕ) → k < n + 1 → (k < n) ⊎ (k ≡ n)
last_or_below k n lt = grind arith
