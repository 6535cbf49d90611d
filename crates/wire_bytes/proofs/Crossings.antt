-- A field that takes all the bits that wait and the first of the next eight bytes.
use Rattle.std.proofs.Common.{◌≡◌, ℕ, ◌+◌, ◌-◌, ◌*◌, ◌/◌, ◌%◌, ◌^◌, ◌<◌, ◌≤◌, Bool, List, ◌++◌, length, length-append, take, drop, [], true, false, inl, inr, ◌⊎◌, sym, ap, subst, ◌∙◌, append_assoc, arith, bit_or}
use Rattle.std.specs.Int.{from_be_bytes, w64}
use Rattle.std.proofs.lemmas.Bool.{true≢false}
use Rattle.std.proofs.lemmas.List.{take-append-drop}
use Rattle.std.proofs.lemmas.List.Concat.{flat_map-append}
use Rattle.std.proofs.lemmas.Nat.{pow-add, shr-shr, shr_below, shr_high, or_shifted, mod_below, pow_pos, mul-mod_first, mul-add-lt}
use Rattle.base.specs.Grammar.{IsBytes}
use Rattle.wire_bytes.specs.Bits.{bits_of, bits_in}
use Rattle.wire_bytes.specs.Buffer.{top, IsBuffer, buffered}
use Rattle.wire_bytes.proofs.BitLists.{bits_of-append, bits_of-mod, length-bits_of}
use Rattle.wire_bytes.proofs.Buffers.{high_is, same_power, made_from, bits_of-joined, word_bits, shl_cut, field_below, length-buffered}

-- the bits of a word that are left once so many were taken
left_of : (j m next new : ℕ) → j + m ≡ 64 → new ≡ next * 2 ^ j % 2 ^ 64 → (new % 2 ^ (64 - m) ≡ 0) × (top new m ≡ bits_of m next)
left_of j m next new whole new-is =
    let turned : 64 ≡ m + j = omega arith in
    let cut = new-is ∙ ap (λ k. next * 2 ^ j % 2 ^ k) turned ∙ shl_cut _ m j in
    let made = made_from _ j _ cut in
    let shift : 64 - m ≡ j = omega arith in
    (ap (λ k. new % 2 ^ k) shift ∙ made.1, ap (λ k. bits_of m (new / 2 ^ k)) shift ∙ ap (bits_of m) made.0 ∙ bits_of-mod m _)

divided : (a low k : ℕ) → (a * 2 ^ k + low) / 2 ^ k ≡ a + low / 2 ^ k
divided a low k =
    let same : a * 2 ^ k + low ≡ (a + low / 2 ^ k) * 2 ^ k + low % 2 ^ k = omega arith in
    ap (λ n. n / 2 ^ k) same ∙ shr_high _ k _ (mod_below _ _ (pow_pos k))

-- two shifts to the left are one
pub shl_twice : (n k : ℕ) → n * 2 % 2 ^ 64 * 2 ^ k % 2 ^ 64 ≡ n * 2 ^ (k + 1) % 2 ^ 64
shl_twice n k = mul-mod_first (n * 2) (2 ^ k) (2 ^ 64) ∙ ap (λ m. m % 2 ^ 64) (omega (arith, ap (λ p. n * p) (pow-add 2 k 1)))

-- the field: the bits that wait above the first of the next word
field_of : (word count need j m next : ℕ) → IsBuffer word count → next < 2 ^ 64 → need ≡ count + j → j + m ≡ 64 → need ≤ 64
    → bit_or word (next / 2 ^ count) / 2 ^ (64 - need) ≡ word / 2 ^ (64 - count) * 2 ^ j + next / 2 ^ m
field_of word count need j m next b lt need-is whole few =
    let h = word / 2 ^ (64 - count) in
    let low = next / 2 ^ count in
    let sixty_four : 64 ≡ (64 - count) + count = omega arith in
    let below = shr_below _ _ _ (subst (λ k. next < 2 ^ k) sixty_four lt) in
    let joined = ap (λ w. bit_or w low) (high_is _ _ b) ∙ or_shifted h _ _ below in
    let wide : 2 ^ (64 - count) ≡ 2 ^ j * 2 ^ (64 - need) = same_power _ _ (omega (arith, few)) ∙ pow-add 2 j _ in
    let parts : bit_or word low ≡ h * 2 ^ j * 2 ^ (64 - need) + low = joined ∙ omega (arith, ap (λ p. h * p) wide) in
    let further : count + (64 - need) ≡ m = omega (arith, few) in
    let shifted : low / 2 ^ (64 - need) ≡ next / 2 ^ m = shr-shr _ _ _ ∙ ap (λ k. next / 2 ^ k) further in
    ap (λ w. w / 2 ^ (64 - need)) parts ∙ divided _ _ _ ∙ ap (λ q. h * 2 ^ j + q) shifted

pub across : (word count need next new : ℕ) (bytes after : List ℕ) → IsBuffer word count → word < 2 ^ 64 → next < 2 ^ 64 → next ≡ from_be_bytes w64 bytes → IsBytes bytes → 8 ≤ length bytes → count < need → need ≤ 64 → new ≡ next * 2 ^ (need - count) % 2 ^ 64 → after ≡ drop 8 bytes
    → IsBuffer new (64 - (need - count))
    × (buffered word count bytes ≡ bits_of need (bit_or word (next / 2 ^ count) / 2 ^ (64 - need)) ++ buffered new (64 - (need - count)) after)
    × (bit_or word (next / 2 ^ count) / 2 ^ (64 - need) < 2 ^ need)
across word count need next new bytes _ b word_lt lt next-is are long more few new-is after-is =
    let j = need - count in
    let m = 64 - (need - count) in
    let h = word / 2 ^ (64 - count) in
    let f = next / 2 ^ m in
    let rest = bits_in (drop 8 bytes) in
    let need-is : need ≡ count + j = omega arith in
    let whole : j + m ≡ 64 = omega (arith, b.part) in
    let kept = left_of j m _ _ whole new-is in
    let number = field_of _ _ _ j m _ b lt need-is whole few in
    let f_small : f < 2 ^ j = shr_below _ j m (subst (λ (k : ℕ). next < 2 ^ k) (sym whole) lt) in
    let h_small : h < 2 ^ count = field_below _ _ (omega (arith, b.part)) word_lt in
    let below : h * 2 ^ j + f < 2 ^ need = omega (arith, mul-add-lt h (2 ^ j) f (2 ^ count) h_small f_small, pow-add 2 j count, same_power (j + count) need (omega (arith, need-is))) in
    let bytes_are : bits_in bytes ≡ bits_of 64 next ++ rest =
    sym (ap bits_in (take-append-drop 8 _)) ∙ flat_map-append (bits_of 8) (take 8 bytes) (drop 8 bytes) ∙ ap (λ (a : List Bool). a ++ rest) (sym (ap (bits_of 64) next-is ∙ word_bits _ are long)) in
    let next_bits : bits_of 64 next ≡ bits_of j f ++ top new m = ap (λ k. bits_of k next) (sym whole) ∙ bits_of-append j m _ ∙ ap (λ a. bits_of j f ++ a) (sym kept.1) in
    let field_bits = ap (λ k. bits_of k (h * 2 ^ j + f)) need-is ∙ bits_of-joined _ j h f f_small in
    let all =
    ap (λ a. top word count ++ a) (bytes_are ∙ ap (λ a. a ++ rest) next_bits ∙ append_assoc (bits_of j f) (top new m) rest) ∙ sym (append_assoc (top word count) (bits_of j f) (top new m ++ rest)) in (
      record { part = omega (arith, more, few); clear = kept.0 },
      all ∙ ap (λ (a : List Bool). a ++ (top new m ++ rest)) (sym field_bits ∙ ap (bits_of need) (sym number)) ∙ ap (λ (a : List ℕ). bits_of need (bit_or word (next / 2 ^ count) / 2 ^ (64 - need)) ++ (top new m ++ bits_in a)) (sym after-is),
      subst (λ (w : ℕ). w < 2 ^ need) (sym number) below,
    )

-- where a field was taken, no bits lack
pub not_short : (need number : ℕ) (bits rest : List Bool) → bits ≡ bits_of need number ++ rest → length bits < need → ⊥
not_short need number _ rest e lt = omega (arith, ap length e, length-append (bits_of need number) rest, length-bits_of need number, lt)

pub never_short : (need number : ℕ) (bits rest : List Bool) → bits ≡ bits_of need number ++ rest → (true ≡ false → length bits < need) × (length bits < need → true ≡ false)
never_short _ _ _ _ e = (λ w. absurd (true≢false w), λ lt. absurd (not_short _ _ _ _ e lt))

-- where fewer bits wait than are needed, and no bytes come after them, bits lack
pub lacks : (word count need : ℕ) (bytes : List ℕ) (bits : List Bool) → buffered word count bytes ≡ bits → (need ≤ count) ⊎ (bytes ≡ []) → count < need → length bits < need
lacks _ _ _ _ _ same (inl le) lt = absurd (omega (arith, lt))
lacks word count _ bytes _ same (inr none) lt = omega (arith, sym (ap length same), length-buffered word count bytes, ap length none, lt)

-- what lacks after a field was taken lacks of the whole
pub lacks_later : (need number rest : ℕ) (bits middle : List Bool) → bits ≡ bits_of need number ++ middle → length middle < rest → length bits < need + rest
lacks_later need number _ _ middle e lt = omega (arith, ap length e, length-append (bits_of need number) middle, length-bits_of need number, lt)
