-- A sum that a chunk keeps has 32 bits.
use Rattle.std.proofs.Common.{ℕ, ◌%◌, ◌^◌, ◌<◌, List, [], ◌∷◌, arith}
use Rattle.std.specs.Prelude.{fold, bit_xor, ◌==◌}
use Rattle.std.specs.Int.{bit_at}
use Rattle.std.specs.List.{flat_map, AllByRecursion}
use Rattle.std.proofs.lemmas.Nat.{xor_lt}
use Rattle.std.proofs.lemmas.Nat.Bits.{bit_at-lt}
use Rattle.base.proofs.Lists.{AllByRecursion-append}
use Rattle.wire_bytes.specs.Crc.{with_bit, coefficients}
use Rattle.index_writing.proofs.ListPlaces.{halved}

with_low : (r bit : ℕ) → r < 2 ^ 32 → bit < 2 ^ 32 → with_bit r bit < 2 ^ 32
with_low r bit low few = halved (bit_xor r bit % 2 == 1) (bit_xor r bit) (xor_lt 32 r bit low few)

fold_low : (bits : List ℕ) (r : ℕ) → r < 2 ^ 32 → AllByRecursion (λ bit. bit < 2 ^ 32) bits → fold with_bit r bits < 2 ^ 32
fold_low [] r low all = low
fold_low (bit ∷ bits) r low all = fold_low bits (with_bit r bit) (with_low r bit low all.0) all.1

bit_low : (byte i : ℕ) → bit_at byte i < 2 ^ 32
bit_low byte i = omega (arith, bit_at-lt byte i)

coefficients_low : (bytes : List ℕ) → AllByRecursion (λ bit. bit < 2 ^ 32) (flat_map coefficients bytes)
coefficients_low [] = tt
coefficients_low (byte ∷ bytes) =
    AllByRecursion-append (λ bit. bit < 2 ^ 32) (coefficients byte) (flat_map coefficients bytes)
    (bit_low byte 0, (bit_low byte 1, (bit_low byte 2, (bit_low byte 3, (bit_low byte 4, (bit_low byte 5, (bit_low byte 6, (bit_low byte 7, tt)))))))) (coefficients_low bytes)
