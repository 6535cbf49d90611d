-- CRC-32C (Castagnoli, RFC 3720): the remainder of a division of polynomials over the field of two elements. A number of
-- 32 bits is a polynomial of degree 31 at most, whose lowest bit is the highest power.
use Rattle.std.specs.Prelude.{ℕ, zero, suc, ◌/◌, ◌%◌, List, [], ◌∷◌, map, fold, ◌==◌, if◌then◌else◌, bit_xor}
use Rattle.std.specs.Int.{bit_at}
use Rattle.std.specs.List.{flat_map}

-- the polynomial to divide by, without its power 32
abbrev pub castagnoli : ℕ
castagnoli = 0x82F63B78

-- a polynomial times x: where the power 32 comes out, the polynomial is taken away
abbrev pub times_x : ℕ → ℕ
times_x r = if r % 2 == 1 then bit_xor (r / 2) castagnoli else r / 2

-- the same so many times
unfoldable pub times_x_to : ℕ → ℕ → ℕ
times_x_to zero r = r
times_x_to (suc n) r = times_x_to n (times_x r)

-- the remainder after one coefficient more
abbrev pub with_bit : ℕ → ℕ → ℕ
with_bit r bit = times_x (bit_xor r bit)

-- a byte's coefficients: its bits, the lowest first
abbrev pub coefficients : ℕ → List ℕ
coefficients byte = map (λ i. bit_at byte i) (0 ∷ 1 ∷ 2 ∷ 3 ∷ 4 ∷ 5 ∷ 6 ∷ 7 ∷ [])

-- all 32 coefficients one, with which the division begins and which the result is taken from
abbrev pub ones : ℕ
ones = 0xFFFFFFFF

-- the remainder after so many bytes more
unfoldable pub remainder : ℕ → List ℕ → ℕ
remainder r bytes = fold with_bit r (flat_map coefficients bytes)

unfoldable pub crc : List ℕ → ℕ
crc bytes = bit_xor (remainder ones bytes) ones
