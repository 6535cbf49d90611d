-- Lists of bits and the numbers and bytes that they stand for.
use Rattle.std.proofs.Common.{◌≡◌, ℕ, zero, suc, ◌+◌, ◌*◌, ◌/◌, ◌%◌, ◌^◌, ◌<◌, ◌≤◌, Bool, true, false, cond, List, [], ◌∷◌, ◌++◌, length, get_or, refl, sym, ap, ◌∙◌, arith, inl, inr, ◌⊎◌, zero-add, length-append}
use Rattle.std.specs.Prelude.{replicate}
use Rattle.std.specs.Int.{bit_at, byte_at, bytes_high_first, to_be_bytes, from_be_bytes, w64}
use Rattle.std.proofs.lemmas.Bool.{eq-eqb, ne_eqb, cases_eq}
use Rattle.std.proofs.lemmas.Nat.{pow-add, shr-shr, shr_high, mod-pow-add, be_bytes_8, shr_split}
use Rattle.std.proofs.lemmas.Nat.Bits.{bit_at_cat_low, bit_at_above, bit_at-zero}
use Rattle.wire_bytes.specs.Bits.{bits_of, number_of, bits_in}
use Rattle.std.proofs.Math.Nat.{mod-eq_of_lt}

pub length-bits_of : (k n : ℕ) → length (bits_of k n) ≡ k
unfolding bits_of
length-bits_of zero n = refl
length-bits_of (suc k) n = ap suc (length-bits_of k n)

pub number_of-append : (a b : List Bool) → number_of (a ++ b) ≡ number_of a * 2 ^ length b + number_of b
unfolding number_of
number_of-append [] b = omega arith
number_of-append (true ∷ a) b = omega (arith, number_of-append a b, ap (λ k. 2 ^ k) (length-append a b), pow-add 2 (length a) (length b))
number_of-append (false ∷ a) b = omega (arith, number_of-append a b)

pub number_of-lt : (bits : List Bool) → number_of bits < 2 ^ length bits
unfolding number_of
number_of-lt [] = omega arith
number_of-lt (bit ∷ bits) =
    let longer : 2 ^ suc (length bits) ≡ 2 ^ (1 + length bits) = ap (λ e. 2 ^ e) (omega arith) in
    let lt = number_of-lt bits in
    elim bit as (λ b. cond b (2 ^ length bits) 0 + number_of bits < 2 ^ suc (length bits)) [
      | true ↦ omega (arith, lt, longer, pow-add 2 1 (length bits))
      | false ↦ omega (arith, lt, longer, pow-add 2 1 (length bits))
    ]

-- a bit is 0 or 1
bit_cases : (n i : ℕ) → (bit_at n i ≡ 0) ⊎ (bit_at n i ≡ 1)
bit_cases n i = elim (cases_eq _ 0) [ inl e ↦ inl e | inr ne ↦ inr (omega arith) ]

pub number_of-bits_of : (k n : ℕ) → number_of (bits_of k n) ≡ n % 2 ^ k
unfolding bits_of number_of
number_of-bits_of zero n = omega arith
number_of-bits_of (suc k) n =
    let split : n % 2 ^ (1 + k) ≡ bit_at n k * 2 ^ k + n % 2 ^ k = mod-pow-add n 1 k in
    let same : n % 2 ^ suc k ≡ n % 2 ^ (1 + k) = ap (λ e. n % 2 ^ e) (omega arith) in
    elim (bit_cases n k) [
      | inl e ↦ rw (ne_eqb (bit_at n k) 1 (λ h. omega (arith, e, h)), number_of-bits_of k n) (omega (arith, split, same, ap (λ b. b * 2 ^ k) e))
      | inr e ↦ rw (eq-eqb (bit_at n k) 1 e, length-bits_of k n, number_of-bits_of k n) (omega (arith, split, same, ap (λ b. b * 2 ^ k) e))
    ]

-- only the low bits count
pub bits_of-high : (k j m n : ℕ) → k ≤ j → bits_of k (m * 2 ^ j + n) ≡ bits_of k n
unfolding bits_of
bits_of-high zero j m n h = refl
bits_of-high (suc k) j m n h = rw (bit_at_cat_low m j n k (omega arith), bits_of-high k j m n (omega arith)) refl

pub bits_of-mod : (k n : ℕ) → bits_of k (n % 2 ^ k) ≡ bits_of k n
bits_of-mod k n = sym (bits_of-high k k _ _ (omega arith)) ∙ ap (bits_of k) (shr_split n k)

pub bits_of-number_of : (bits : List Bool) → bits_of (length bits) (number_of bits) ≡ bits
unfolding bits_of number_of
bits_of-number_of [] = refl
bits_of-number_of (true ∷ bits) =
    let k = length bits in
    let rest = bits_of-number_of bits in
    let lt = number_of-lt bits in
    let one : bit_at (1 * 2 ^ k + number_of bits) k ≡ 1 = ap (λ n. n % 2) (shr_high 1 k (number_of bits) lt) in
    let low = bits_of-high k k 1 (number_of bits) (omega arith) in
    let same : 2 ^ k + number_of bits ≡ 1 * 2 ^ k + number_of bits = omega arith in
    rw (same, eq-eqb _ 1 one, low, rest) refl
bits_of-number_of (false ∷ bits) =
    let k = length bits in
    let rest = bits_of-number_of bits in
    let lt = number_of-lt bits in
    let none : bit_at (number_of bits) k ≡ 0 = bit_at_above (number_of bits) k k lt (omega arith) in
    rw (zero-add (number_of bits), ne_eqb (bit_at (number_of bits) k) 1 (λ h. omega (arith, none, h)), rest) refl

pub bits_of-append : (j k n : ℕ) → bits_of (j + k) n ≡ bits_of j (n / 2 ^ k) ++ bits_of k n
unfolding bits_of
bits_of-append zero k n = ap (λ e. bits_of e n) (zero-add k)
bits_of-append (suc j) k n =
    let longer : suc j + k ≡ suc (j + k) = omega arith in
    let bit : bit_at n (j + k) ≡ bit_at (n / 2 ^ k) j = ap (λ q. q % 2) (ap (λ e. n / 2 ^ e) (omega arith) ∙ sym (shr-shr n k j)) in
    rw (longer, bit, bits_of-append j k n) refl

pub bits_of-zero : (k : ℕ) → bits_of k 0 ≡ replicate k false
unfolding bits_of
bits_of-zero zero = refl
bits_of-zero (suc k) =
    let none = bit_at-zero k in
    rw (ne_eqb (bit_at 0 k) 1 (λ h. omega (arith, none, h)), bits_of-zero k) refl

-- two numbers of so many bits that have the same bits are equal
pub same_from_bits_of : (k m n : ℕ) → m < 2 ^ k → n < 2 ^ k → bits_of k m ≡ bits_of k n → m ≡ n
same_from_bits_of k m n p q e =
    let number = sym (number_of-bits_of k m) ∙ ap number_of e ∙ number_of-bits_of k n in
    sym (mod-eq_of_lt p) ∙ number ∙ mod-eq_of_lt q

pow_bytes : (i : ℕ) → 256 ^ i ≡ 2 ^ (8 * i)
pow_bytes zero = refl
pow_bytes (suc i) =
    let longer : 2 ^ (8 * suc i) ≡ 2 ^ (8 * i + 8) = ap (λ e. 2 ^ e) (omega arith) in
    omega (arith, pow_bytes i, longer, pow-add 2 (8 * i) 8)

byte_at-is : (i n : ℕ) → byte_at i n ≡ n / 2 ^ (8 * i) % 2 ^ 8
byte_at-is zero n = omega arith
byte_at-is (suc i) n =
    rw (pow_bytes) refl

pub bits_of-nil : (n : ℕ) → bits_of 0 n ≡ []
unfolding bits_of
bits_of-nil n = refl

pub bits_in-bytes : (k n : ℕ) → bits_in (bytes_high_first k n) ≡ bits_of (8 * k) n
bits_in-bytes zero n = sym (bits_of-nil n)
bits_in-bytes (suc k) n =
    let longer : 8 * suc k ≡ 8 + 8 * k = omega arith in
    let head = ap (bits_of 8) (byte_at-is k n) ∙ bits_of-mod 8 _ in
    let tail = bits_in-bytes k n in
    let joined = ap (λ a. a ++ bits_in (bytes_high_first k n)) head ∙ ap (λ b. bits_of 8 (n / 2 ^ (8 * k)) ++ b) tail in
    joined ∙ sym (ap (λ e. bits_of e n) longer ∙ bits_of-append 8 _ n)

pub bits_in-to_be_bytes : (n : ℕ) → bits_in (to_be_bytes w64 n) ≡ bits_of 64 n
bits_in-to_be_bytes n = bits_in-bytes 8 n

pub bits_of-from_be_bytes : (bytes : List ℕ) → length bytes ≡ 8 → ((i : ℕ) → get_or bytes i 0 < 256) → bits_of 64 (from_be_bytes w64 bytes) ≡ bits_in bytes
bits_of-from_be_bytes _ len small = sym (bits_in-to_be_bytes _) ∙ ap bits_in (be_bytes_8 _ _ len small refl)

pub length-bits_in : (bytes : List ℕ) → length (bits_in bytes) ≡ 8 * length bytes
length-bits_in [] = refl
length-bits_in (b ∷ bytes) = omega (arith, length-append (bits_of 8 b) (bits_in bytes), length-bits_of 8 b, length-bits_in bytes)
