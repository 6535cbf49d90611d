-- Bits of numbers and of bytes, the most significant first.
use Rattle.std.specs.Prelude.{◌≡◌, ℕ, zero, suc, ◌+◌, ◌-◌, ◌^◌, ◌%◌, ◌==◌, Bool, false, List, [], ◌∷◌, ◌++◌, length, if◌then◌else◌, replicate}
use Rattle.std.specs.Int.{bit_at}
use Rattle.std.specs.List.{flat_map}

-- the low count bits of a number
unfoldable pub bits_of : ℕ → ℕ → List Bool
bits_of zero n = []
bits_of (suc count) n = (bit_at n count == 1) ∷ bits_of count n

-- the number whose bits these are
unfoldable pub number_of : List Bool → ℕ
number_of [] = 0
number_of (bit ∷ bits) = (if bit then 2 ^ length bits else 0) + number_of bits

-- the bits of bytes, one byte after another
abbrev pub bits_in : List ℕ → List Bool
bits_in bytes = flat_map (bits_of 8) bytes

-- bits up to the end of a byte: zero bits are added to the last one
abbrev pub filled : List Bool → List Bool
filled bits = bits ++ replicate ((8 - length bits % 8) % 8) false

-- These bits end with those.
abbrev pub EndWith : List Bool → List Bool → Type 0
EndWith bits end = (front : List Bool) × (bits ≡ front ++ end)
