-- Zero bits at the ends of a number.
use Rattle.std.proofs.Common.{◌≡◌, ℕ, zero, suc, ◌+◌, ◌-◌, ◌*◌, ◌%◌, ◌^◌, ◌<◌, ◌≤◌, ap, arith, inl, inr}
use Rattle.std.specs.Int.{bit_at, w64, leading_zeros, trailing_zeros}
use Rattle.std.proofs.lemmas.Bool.{cases_lt}
use Rattle.std.proofs.lemmas.Nat.{leading_top, leading_length, mod-pow-add}
use Rattle.std.proofs.lemmas.Nat.Bits.{bit_at-trailing_zeros, bit_at_above}
use Rattle.std.proofs.Math.Pow.{pow_mono}

-- a number without low bits
low_zero : (t n : ℕ) → ((i : ℕ) → i < t → bit_at n i ≡ 0) → n % 2 ^ t ≡ 0
low_zero zero n h = omega arith
low_zero (suc t) n h =
    let split = mod-pow-add n 1 t in
    let longer : n % 2 ^ suc t ≡ n % 2 ^ (1 + t) = ap (λ e. n % 2 ^ e) (omega arith) in
    let below = low_zero t n (λ i lt. h i (omega arith)) in
    omega (arith, ap (λ b. b * 2 ^ t) (h t (omega arith)))

pub trailing_low : (n t : ℕ) → 0 < n → n < 2 ^ 64 → t ≤ trailing_zeros w64 n → n % 2 ^ t ≡ 0
trailing_low n t some lt le =
    let places = bit_at-trailing_zeros w64 n some lt in
    low_zero t n (λ i less. places.2 i (omega arith))

pub leading_below : (n l : ℕ) → n < 2 ^ 64 → l ≤ leading_zeros w64 n → n < 2 ^ (64 - l)
leading_below n l lt le =
    let top = leading_length 64 n lt in
    let small : top.0 ≤ 64 - l = omega (arith, top.1, le) in
    omega (arith, pow_mono small)

pub counts_apart : (n : ℕ) → 0 < n → n < 2 ^ 64 → leading_zeros w64 n + trailing_zeros w64 n < 64
counts_apart n some lt =
    let top = leading_top 64 n some lt in
    let places = bit_at-trailing_zeros w64 n some lt in
    elim (cases_lt top.0 (trailing_zeros w64 n)) [
      | inl past ↦ absurd (omega (arith, places.1, bit_at_above n (suc top.0) (trailing_zeros w64 n) top.3 (omega arith)))
      | inr within ↦ omega (arith, top.1, within)
    ]
