-- Multiplying by x is linear, so that many coefficients are taken at once.
use Rattle.std.proofs.Common.{◌≡◌, ℕ, zero, suc, ◌+◌, ◌*◌, ◌/◌, ◌%◌, ◌^◌, ◌<◌, ◌≤◌, cond, eqb, List, [], ◌∷◌, ◌++◌, length, fold, refl, sym, ap, ◌∙◌, arith, ◌⊎◌, inl, inr, take, drop, get_or, add-one, drop-cons, length-drop}
use Rattle.std.specs.Int.Bits.{bit_xor, xor_assoc, xor_self, xor_zero_r}
use Rattle.std.specs.Int.{w32, from_le_bytes}
use Rattle.std.specs.List.{flat_map, AllByRecursion}
use Rattle.std.specs.Int.Bits.{xor_shifted}
use Rattle.std.proofs.Math.Nat.{pow-suc, mod-lt}
use Rattle.std.proofs.lemmas.Nat.{xor_comm, xor_shr, xor_mod, shr-shr, pow_pos, div-add-mod'}
use Rattle.std.proofs.lemmas.List.{take-append-drop, length-take, nil_from_length}
use Rattle.std.proofs.lemmas.List.Sums.{fold-append}
use Rattle.std.proofs.lemmas.List.Concat.{flat_map-cons}
use Rattle.std.proofs.lemmas.Grind.{flat_map-append}
use Rattle.base.specs.Grammar.{IsBytes}
use Rattle.base.proofs.Fronts.{IsBytes-drop, IsBytes-take}
use Rattle.wire_bytes.specs.Crc.{castagnoli, times_x, times_x_to, with_bit, coefficients, remainder}

-- ---- sums of polynomials

swap_inner : (a b c d : ℕ) → bit_xor (bit_xor a b) (bit_xor c d) ≡ bit_xor (bit_xor a c) (bit_xor b d)
swap_inner a b c d = xor_assoc a b (bit_xor c d) ∙ ap (bit_xor a) (sym (xor_assoc b c d) ∙ ap (λ n. bit_xor n d) (xor_comm b c) ∙ xor_assoc c b d) ∙ sym (xor_assoc a c (bit_xor b d))

-- with the polynomial where a coefficient is one
abbrev pub reduced : ℕ → ℕ → ℕ
reduced bit half = cond (eqb bit 1) (bit_xor half castagnoli) half

two_bits : (n : ℕ) → n < 2 → (n ≡ 0) ⊎ (n ≡ 1)
two_bits zero low = inl refl
two_bits (suc zero) low = inr refl
two_bits (suc (suc n)) low = absurd (omega arith)

reduced-xor : (a b h k : ℕ) → a < 2 → b < 2 → reduced (bit_xor a b) (bit_xor h k) ≡ bit_xor (reduced a h) (reduced b k)
reduced-xor a b h k low_a low_b =
    elim (two_bits a low_a) [
      | inl a0 ↦ elim (two_bits b low_b) [
        | inl b0 ↦ rw (a0, b0) refl
        | inr b1 ↦ rw (a0, b1) (xor_assoc h k castagnoli)
      ]
      | inr a1 ↦ elim (two_bits b low_b) [
        | inl b0 ↦ rw (a1, b0) (xor_assoc h k castagnoli ∙ ap (bit_xor h) (xor_comm k _) ∙ sym (xor_assoc h castagnoli k))
        | inr b1 ↦ rw (a1, b1) (sym (swap_inner h _ k _ ∙ ap (bit_xor (bit_xor h k)) (xor_self castagnoli) ∙ xor_zero_r (bit_xor h k)))
      ]
    ]

pub times_x-xor : (a b : ℕ) → times_x (bit_xor a b) ≡ bit_xor (times_x a) (times_x b)
times_x-xor a b =
    let half = xor_shr a b 1 in
    let low = xor_mod a b 1 in
    rw (low, half) (reduced-xor _ _ (a / 2) (b / 2) (omega arith) (omega arith))

pub times_x_to-xor : (n a b : ℕ) → times_x_to n (bit_xor a b) ≡ bit_xor (times_x_to n a) (times_x_to n b)
unfolding times_x_to
times_x_to-xor zero a b = refl
times_x_to-xor (suc n) a b = ap (times_x_to n) (times_x-xor a b) ∙ times_x_to-xor n _ _

pub times_x_to-add : (m n r : ℕ) → times_x_to (m + n) r ≡ times_x_to n (times_x_to m r)
unfolding times_x_to
times_x_to-add zero n r = let e : 0 + n ≡ n = omega arith in rw e refl
times_x_to-add (suc m) n r = let e : suc m + n ≡ suc (m + n) = omega arith in rw e (times_x_to-add m n _)

-- a polynomial of a lower degree moves without a remainder
times_x-double : (h : ℕ) → times_x (2 * h) ≡ h
times_x-double h =
    let even : 2 * h % 2 ≡ 0 = omega arith in
    let half : 2 * h / 2 ≡ h = omega arith in
    rw (even, half) refl

one_power : (h weight next : ℕ) → next ≡ 2 * weight → times_x (h * next) ≡ h * weight
one_power h weight next e =
    let twice : h * next ≡ 2 * (h * weight) = rw e (omega arith) in
    ap times_x twice ∙ times_x-double _

shifted_back : (n h : ℕ) → times_x_to n (h * 2 ^ n) ≡ h
unfolding times_x_to
shifted_back zero h = omega arith
shifted_back (suc n) h =
    let next : 2 ^ suc n ≡ 2 * 2 ^ n = rw pow-suc (omega arith) in
    ap (times_x_to n) (one_power h _ _ next) ∙ shifted_back n h

-- coefficients are taken from the low end, and the others move
pub times_x_to-part : (k n w : ℕ) → times_x_to (k + n) w ≡ bit_xor (times_x_to n (w / 2 ^ k)) (times_x_to (k + n) (w % 2 ^ k))
times_x_to-part k n w =
    let above = w / 2 ^ k in
    let below = w % 2 ^ k in
    let whole = div-add-mod' w (2 ^ k) in
    let apart = sym (xor_shifted above k below (mod-lt w (pow_pos k)) ∙ whole) in
    let high = times_x_to-add k n _ ∙ ap (times_x_to n) (shifted_back k _) in
    ap (times_x_to (k + n)) apart ∙ times_x_to-xor _ _ _ ∙ ap (λ part. bit_xor part (times_x_to (k + n) below)) high

-- ---- coefficients one after another

-- the number whose bits they are, the lowest first
abbrev pub number_of : List ℕ → ℕ
number_of [] = 0
number_of (bit ∷ bits) = bit + 2 * number_of bits

abbrev pub AreBits : List ℕ → Type 0
AreBits bits = AllByRecursion (λ bit. bit < 2) bits

low_bit : (bit m : ℕ) → bit < 2 → bit + 2 * m ≡ bit_xor bit (2 * m)
low_bit bit m low =
    let e : 2 * m ≡ m * 2 = omega arith in
    let f : bit + m * 2 ≡ m * 2 + bit = omega arith in
    rw e (f ∙ sym (xor_shifted m 1 bit low) ∙ xor_comm (m * 2) bit)

-- taking them one by one is taking them at once
pub with_bits : (r : ℕ) (bits : List ℕ) → AreBits bits → fold with_bit r bits ≡ times_x_to (length bits) (bit_xor r (number_of bits))
unfolding times_x_to
with_bits r [] are = sym (xor_zero_r r)
with_bits r (bit ∷ bits) are =
    let m = number_of bits in
    let one : times_x (bit_xor r (bit + 2 * m)) ≡ bit_xor (with_bit r bit) m =
    ap times_x (ap (bit_xor r) (low_bit bit m are.0) ∙ sym (xor_assoc r bit (2 * m))) ∙ times_x-xor (bit_xor r bit) (2 * m) ∙ ap (bit_xor (with_bit r bit)) (times_x-double m) in
    with_bits (with_bit r bit) bits are.1 ∙ ap (times_x_to (length bits)) (sym one)

-- ---- bytes one after another

-- the number whose bytes they are, the lowest first
abbrev pub low_first : List ℕ → ℕ
low_first [] = 0
low_first (byte ∷ bytes) = byte + 256 * low_first bytes

bits_of_byte : (byte : ℕ) → byte < 256 → number_of (coefficients byte) ≡ byte
bits_of_byte _ small = omega arith

are_bits : (byte : ℕ) → AreBits (coefficients byte)
are_bits _ = (omega arith, (omega arith, (omega arith, (omega arith, (omega arith, (omega arith, (omega arith, (omega arith, tt))))))))

with_one_byte : (r byte : ℕ) → byte < 256 → fold with_bit r (coefficients byte) ≡ times_x_to 8 (bit_xor r byte)
with_one_byte r byte small = with_bits r (coefficients byte) (are_bits byte) ∙ ap (λ n. times_x_to 8 (bit_xor r n)) (bits_of_byte byte small)

low_byte : (byte high : ℕ) → byte < 256 → byte + 256 * high ≡ bit_xor byte (high * 256)
low_byte byte high small =
    let e : byte + 256 * high ≡ high * 256 + byte = omega arith in
    e ∙ sym (xor_shifted high 8 byte small) ∙ xor_comm (high * 256) byte

-- taking them one by one is taking them at once
pub with_bytes : (r : ℕ) (bytes : List ℕ) → AllByRecursion (λ byte. byte < 256) bytes → fold with_bit r (flat_map coefficients bytes) ≡ times_x_to (8 * length bytes) (bit_xor r (low_first bytes))
unfolding times_x_to
with_bytes r [] are = sym (xor_zero_r r)
with_bytes r (byte ∷ bytes) are =
    let high = low_first bytes in
    let n = 8 * length bytes in
    let parts : fold with_bit r (flat_map coefficients (byte ∷ bytes)) ≡ fold with_bit (fold with_bit r (coefficients byte)) (flat_map coefficients bytes) = ap (fold with_bit r) (flat_map-cons coefficients byte bytes) ∙ fold-append with_bit r (coefficients byte) (flat_map coefficients bytes) in
    let first = with_one_byte r _ are.0 in
    let at_once =
    ap (times_x_to 8) (ap (bit_xor r) (low_byte _ _ are.0) ∙ sym (xor_assoc r byte (high * 256))) ∙ times_x_to-xor 8 (bit_xor r byte) (high * 256) ∙ ap (bit_xor (times_x_to 8 (bit_xor r byte))) (shifted_back 8 _) in
    let count : 8 * suc (length bytes) ≡ 8 + n = omega arith in
    parts ∙ with_bytes (fold with_bit r (coefficients byte)) bytes are.1 ∙ ap (λ k. times_x_to n (bit_xor k high)) first
    ∙ ap (times_x_to n) (sym at_once) ∙ sym (ap (λ k. times_x_to k (bit_xor r (byte + 256 * high))) count ∙ times_x_to-add 8 n _)

-- ---- four and sixteen bytes of the code, and one

next_entry : (n k w : ℕ) → times_x_to (8 + n) (w / 2 ^ k) ≡ bit_xor (times_x_to n (w / 2 ^ (k + 8))) (times_x_to (8 + n) (w / 2 ^ k % 256))
next_entry n k w = times_x_to-part 8 n _ ∙ ap (λ v. bit_xor (times_x_to n v) (times_x_to (8 + n) (w / 2 ^ k % 256))) (shr-shr w k 8)

four_parts : (n w : ℕ) → w < 2 ^ 32 → times_x_to (8 + (8 + (8 + (8 + n)))) w ≡ bit_xor (bit_xor (times_x_to (8 + n) (w / 2 ^ 24 % 256)) (times_x_to (8 + (8 + n)) (w / 2 ^ 16 % 256))) (bit_xor (times_x_to (8 + (8 + (8 + n))) (w / 2 ^ 8 % 256)) (times_x_to (8 + (8 + (8 + (8 + n)))) (w % 256)))
four_parts n w small =
    let top : w / 2 ^ 24 ≡ w / 2 ^ 24 % 256 = omega arith in
    let a = times_x_to (8 + n) (w / 2 ^ 24 % 256) in
    let b = times_x_to (8 + (8 + n)) (w / 2 ^ 16 % 256) in
    let c = times_x_to (8 + (8 + (8 + n))) (w / 2 ^ 8 % 256) in
    let d = times_x_to (8 + (8 + (8 + (8 + n)))) (w % 256) in
    times_x_to-part 8 _ w
    ∙ ap (λ m. bit_xor m d) (next_entry _ 8 w
    ∙ ap (λ m. bit_xor m c) (next_entry _ 16 w
    ∙ ap (λ m. bit_xor (times_x_to (8 + n) m) b) top))
    ∙ xor_assoc (bit_xor a b) c d

-- the entries of a half word's bytes add up to its four bytes
pub four_entries : (behind half : ℕ) → half < 2 ^ 32 → bit_xor (bit_xor (times_x_to (8 * (behind + 1)) (half / 2 ^ 24 % 256)) (times_x_to (8 * (behind + 1 + 1)) (half / 2 ^ 16 % 256))) (bit_xor (times_x_to (8 * (behind + 2 + 1)) (half / 2 ^ 8 % 256)) (times_x_to (8 * (behind + 3 + 1)) (half % 256))) ≡ times_x_to (8 * (behind + 4)) half
four_entries behind half small =
    let n = 8 * behind in
    let one : 8 * (behind + 1) ≡ 8 + n = omega arith in
    let two : 8 * (behind + 1 + 1) ≡ 8 + (8 + n) = omega arith in
    let three : 8 * (behind + 2 + 1) ≡ 8 + (8 + (8 + n)) = omega arith in
    let last : 8 * (behind + 3 + 1) ≡ 8 + (8 + (8 + (8 + n))) = omega arith in
    let four : 8 * (behind + 4) ≡ 8 + (8 + (8 + (8 + n))) = omega arith in
    rw (one, two, three, last, four) (sym (four_parts n half small))

-- what was read moves on by the four bytes behind it
moved : (n r half : ℕ) → times_x_to n (bit_xor (times_x_to 32 r) half) ≡ bit_xor (times_x_to (32 + n) r) (times_x_to n half)
moved n r half = times_x_to-xor n _ _ ∙ ap (λ m. bit_xor m (times_x_to n half)) (sym (times_x_to-add _ n r))

-- of sixteen bytes only the first four meet what was read before them
four_halves : (r b c d : ℕ) → bit_xor (bit_xor (bit_xor (times_x_to 96 b) (times_x_to 64 c)) (times_x_to 32 d)) (times_x_to 128 r) ≡ times_x_to 32 (bit_xor (times_x_to 32 (bit_xor (times_x_to 32 (bit_xor (times_x_to 32 r) b)) c)) d)
four_halves r b c d =
    let first = times_x_to 128 r in
    let second = times_x_to 96 b in
    let third = times_x_to 64 c in
    let last = times_x_to 32 d in
    let two = bit_xor (times_x_to 32 r) b in
    let three = bit_xor (times_x_to 32 two) c in
    let apart =
    moved _ _ d ∙ ap (λ m. bit_xor m last) (moved _ _ c ∙ ap (λ m. bit_xor m third) (moved _ r b)) in
    xor_comm (bit_xor (bit_xor second third) last) first
    ∙ sym (apart ∙ ap (λ m. bit_xor m last) (xor_assoc first second third) ∙ xor_assoc first (bit_xor second third) last)

pub one_entry : (w : ℕ) → bit_xor (w / 256) (times_x_to 8 (w % 256)) ≡ times_x_to 8 w
unfolding times_x_to
one_entry w = sym (times_x_to-part 8 0 w)

-- ---- what is read and what is still to be read

pub bytes_small : (bytes : List ℕ) → IsBytes bytes → AllByRecursion (λ byte. byte < 256) bytes
bytes_small [] are = tt
bytes_small (byte ∷ bytes) are = (are 0, bytes_small bytes (λ i. are (suc i)))

low_first-half : (bytes : List ℕ) → length bytes ≡ 4 → low_first bytes ≡ from_le_bytes w32 bytes
low_first-half (a ∷ b ∷ c ∷ d ∷ []) four = omega arith
low_first-half _ four = absurd (omega arith)

of_half : (r : ℕ) (bytes : List ℕ) → length bytes ≡ 4 → IsBytes bytes → times_x_to 32 (bit_xor r (from_le_bytes w32 bytes)) ≡ remainder r bytes
unfolding remainder
of_half r bytes four are =
    sym (with_bytes r bytes (bytes_small _ are) ∙ ap (λ n. times_x_to (8 * n) (bit_xor r (low_first bytes))) four ∙ ap (λ n. times_x_to 32 (bit_xor r n)) (low_first-half _ four))

of_byte : (r byte : ℕ) → byte < 256 → times_x_to 8 (bit_xor r byte) ≡ remainder r (byte ∷ [])
unfolding remainder
of_byte r byte small = sym (ap (fold with_bit r) (flat_map-cons coefficients byte []) ∙ fold-append with_bit r (coefficients byte) [] ∙ with_one_byte r _ small)

-- what is read, before what is still to be read
remainder-append : (r : ℕ) (front after : List ℕ) → remainder (remainder r front) after ≡ remainder r (front ++ after)
unfolding remainder
remainder-append r front after =
    sym (ap (fold with_bit r) (flat_map-append coefficients front after) ∙ fold-append with_bit r (flat_map coefficients front) (flat_map coefficients after))

pub remainder-split : (n r : ℕ) (rest : List ℕ) → remainder (remainder r (take n rest)) (drop n rest) ≡ remainder r rest
remainder-split n r rest = remainder-append r (take n rest) _ ∙ ap (remainder r) (take-append-drop n _)

-- four bytes more, sixteen, and one
pub half_more : (r total : ℕ) (rest : List ℕ) → 4 ≤ length rest → IsBytes rest → remainder r rest ≡ total → remainder (times_x_to 32 (bit_xor r (from_le_bytes w32 (take 4 rest)))) (drop 4 rest) ≡ total
half_more r _ rest long are so_far =
    let front = take 4 rest in
    ap (λ m. remainder m (drop 4 rest)) (of_half r _ (omega (arith, length-take 4 rest)) (IsBytes-take 4 _ are)) ∙ remainder-split 4 r _ ∙ so_far

pub sixteen_are : (r : ℕ) (bytes : List ℕ) → length bytes ≡ 16 → IsBytes bytes → bit_xor (bit_xor (bit_xor (times_x_to 96 (from_le_bytes w32 (take 4 (drop 4 bytes)))) (times_x_to 64 (from_le_bytes w32 (take 4 (drop 4 (drop 4 bytes)))))) (times_x_to 32 (from_le_bytes w32 (drop 4 (drop 4 (drop 4 bytes)))))) (times_x_to 128 (bit_xor r (from_le_bytes w32 (take 4 bytes)))) ≡ remainder r bytes
sixteen_are r bytes sixteen are =
    let total = remainder r bytes in
    let rest1 = drop 4 bytes in
    let rest2 = drop 4 rest1 in
    let rest3 = drop 4 rest2 in
    let a = from_le_bytes w32 (take 4 bytes) in
    let b = from_le_bytes w32 (take 4 rest1) in
    let c = from_le_bytes w32 (take 4 rest2) in
    let d = from_le_bytes w32 rest3 in
    let twelve : length rest1 ≡ 12 = omega (arith, length-drop 4 bytes) in
    let eight : length rest2 ≡ 8 = omega (arith, length-drop 4 rest1) in
    let four : length rest3 ≡ 4 = omega (arith, length-drop 4 rest2) in
    let are1 = IsBytes-drop 4 _ are in
    let are2 = IsBytes-drop 4 _ are1 in
    let are3 = IsBytes-drop 4 _ are2 in
    let r1 = times_x_to 32 (bit_xor r a) in
    let r2 = times_x_to 32 (bit_xor r1 b) in
    let r3 = times_x_to 32 (bit_xor r2 c) in
    let one = half_more r _ _ (omega arith) are refl in
    let two = half_more _ _ _ (omega arith) are1 one in
    let three = half_more _ _ _ (omega arith) are2 two in
    four_halves _ b c d ∙ of_half _ _ four are3 ∙ three

pub byte_more : (r total i : ℕ) (rest : List ℕ) → i < length rest → IsBytes rest → remainder r (drop i rest) ≡ total → remainder (times_x_to 8 (bit_xor r (get_or rest i 0))) (drop (i + 1) rest) ≡ total
byte_more r total i rest lt are so_far =
    let byte = get_or rest i 0 in
    let after = drop (i + 1) rest in
    let split : drop i rest ≡ byte ∷ after = rw (add-one, drop-cons rest i 0) refl in
    ap (λ m. remainder m after) (of_byte r _ (are i)) ∙ remainder-append r _ _ ∙ ap (remainder r) (sym split) ∙ so_far

-- where nothing is left, what was read is all
pub all_read : (r total i : ℕ) (rest : List ℕ) → length rest ≤ i → remainder r (drop i rest) ≡ total → r ≡ total
unfolding remainder
all_read r _ i rest le so_far =
    let nothing = nil_from_length (drop i rest) (omega (arith, length-drop i rest)) in
    ap (λ left. remainder r left) (sym nothing) ∙ so_far
