-- Numbers in a fixed count of digits.
use Rattle.std.specs.Prelude.{ℕ, zero, suc, ◌/◌, ◌%◌, List, [], ◌∷◌, ◌++◌}

-- the last so many digits of a number in a base, the most significant first, with zeros in front of a small number
unfoldable pub fixed_digits : ℕ → ℕ → ℕ → List ℕ
fixed_digits base zero number = []
fixed_digits base (suc count) number = fixed_digits base count (number / base) ++ (number % base ∷ [])
