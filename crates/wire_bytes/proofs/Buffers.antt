-- What shifts do to the bits at the top of a word.
use Rattle.std.proofs.Common.{◌≡◌, ℕ, ◌+◌, ◌-◌, ◌*◌, ◌/◌, ◌%◌, ◌^◌, ◌<◌, ◌≤◌, Bool, false, List, [], ◌∷◌, ◌++◌, length, get_or, take, drop, refl, sym, ap, subst, ◌∙◌, append_assoc, arith, inl, inr, ◌⊎◌, length-append, bit_or}
use Rattle.std.specs.Prelude.{replicate}
use Rattle.std.specs.Int.{from_be_bytes, w64}
use Rattle.std.proofs.lemmas.List.{take_at, take-append-drop, take-take, append-nil, length-take-le, get_or-take, replicate-append-replicate, take_rest}
use Rattle.std.proofs.lemmas.Bool.{cases_lt}
use Rattle.std.proofs.lemmas.List.Concat.{flat_map-append}
use Rattle.std.proofs.lemmas.Nat.{pow_pos, pow-add, shr-shr, shl-shr, shr_high, mod_low, mod-pow-add, shr_below, shl_whole, shl_below, or_shifted}
use Rattle.std.proofs.Math.Nat.{mod-eq_of_lt}
use Rattle.base.specs.Grammar.{IsBytes}
use Rattle.base.proofs.Fronts.{IsBytes-take}
use Rattle.wire_bytes.specs.Bits.{bits_of, number_of, bits_in}
use Rattle.wire_bytes.specs.Buffer.{top, IsBuffer, buffered, front}
use Rattle.wire_bytes.proofs.BitLists.{length-bits_of, number_of-bits_of, bits_of-high, bits_of-mod, bits_of-append, bits_of-zero, bits_of-from_be_bytes, length-bits_in}

-- the bits that wait, as a number
pub high_is : (word count : ℕ) → IsBuffer word count → word ≡ word / 2 ^ (64 - count) * 2 ^ (64 - count)
high_is _ _ b = omega arith

pub same_power : (i j : ℕ) → i ≡ j → 2 ^ i ≡ 2 ^ j
same_power i j e = ap (λ k. 2 ^ k) e

-- a word from its parts
pub made_from : (x k word : ℕ) → word ≡ x * 2 ^ k → (word / 2 ^ k ≡ x) × (word % 2 ^ k ≡ 0)
made_from x k _ e = (ap (λ w. w / 2 ^ k) e ∙ shl-shr x k, ap (λ w. w % 2 ^ k) (e ∙ omega arith) ∙ mod_low x k 0 (pow_pos k))

pub bits_of-joined : (count k high field : ℕ) → field < 2 ^ k → bits_of (count + k) (high * 2 ^ k + field) ≡ bits_of count high ++ bits_of k field
bits_of-joined count k high field lt =
    bits_of-append _ k _ ∙ ap (λ a. a ++ bits_of k (high * 2 ^ k + field)) (ap (bits_of count) (shr_high _ k _ lt)) ∙ ap (λ b. bits_of count high ++ b) (bits_of-high k k _ _ (omega arith))

-- a field goes below the bits that wait
pub add_field : (word count n field after new : ℕ) → IsBuffer word count → after ≡ count + n → after ≤ 64 → field < 2 ^ n → new ≡ bit_or word (field * 2 ^ (64 - after))
    → (new % 2 ^ (64 - after) ≡ 0) × (top new after ≡ top word count ++ bits_of n field)
add_field word count n field after new b after-is small lt new-is =
    let h = word / 2 ^ (64 - count) in
    let wide : 2 ^ (64 - count) ≡ 2 ^ n * 2 ^ (64 - after) = same_power _ _ (omega arith) ∙ pow-add 2 n _ in
    let room : n + (64 - after) ≡ 64 - count = omega arith in
    let below = subst (λ e. field * 2 ^ (64 - after) < 2 ^ e) room (shl_below _ n _ lt) in
    let joined =
    new-is ∙ ap (λ w. bit_or w (field * 2 ^ (64 - after))) (high_is _ _ b) ∙ or_shifted h _ _ below in
    let whole : new ≡ (h * 2 ^ n + field) * 2 ^ (64 - after) = omega (arith, ap (λ p. h * p) wide) in
    let made = made_from _ _ _ whole in
    (made.1, ap (bits_of after) made.0 ∙ ap (λ c. bits_of c (h * 2 ^ n + field)) after-is ∙ bits_of-joined _ n h _ lt)

-- the next bytes, as a field, go below the bits that wait
pub fill : (word count k field after new : ℕ) (bytes rest : List ℕ) → IsBuffer word count → after ≡ count + 8 * k → after < 64 → field < 2 ^ (8 * k) → bits_in bytes ≡ bits_of (8 * k) field ++ bits_in rest
    → new ≡ bit_or word (field * 2 ^ (64 - after) % 2 ^ 64) → IsBuffer new after × (buffered new after rest ≡ buffered word count bytes)
fill word count k field after new bytes rest b after-is small lt parts new-is =
    let low = shl_whole _ (8 * k) (64 - after) 64 lt (omega arith) in
    let added = add_field _ _ _ _ _ _ b after-is (omega arith) lt (new-is ∙ ap (bit_or word) low) in (
      record { part = small; clear = added.0 },
      ap (λ (a : List Bool). a ++ bits_in rest) added.1 ∙ append_assoc (top word count) (bits_of (8 * k) field) (bits_in rest) ∙ ap (λ (a : List Bool). top word count ++ a) (sym parts),
    )

-- the first bytes of a word that was read at once
pub first_bytes : (k next : ℕ) (bytes : List ℕ) → k ≤ 8 → 8 ≤ length bytes → bits_of 64 next ≡ bits_in (take 8 bytes) → bits_in bytes ≡ bits_of (8 * k) (next / 2 ^ (64 - 8 * k)) ++ bits_in (drop k bytes)
first_bytes k next bytes le long word =
    let field = next / 2 ^ (64 - 8 * k) in
    let whole : 64 ≡ 8 * k + (64 - 8 * k) = omega arith in
    let by_bits = ap (λ c. bits_of c next) whole ∙ bits_of-append _ _ _ in
    let by_bytes =
    sym (ap bits_in (take-append-drop k _)) ∙ flat_map-append (bits_of 8) (take k (take 8 bytes)) (drop k (take 8 bytes)) ∙ ap (λ a. bits_in a ++ bits_in (drop k (take 8 bytes))) (take-take k 8 _ le) in
    let same =
    sym (take_at _ _ _ (length-bits_of _ field)) ∙ ap (λ (a : List Bool). take (8 * k) a) (sym by_bits ∙ word ∙ by_bytes)
    ∙ take_at (bits_in (take k bytes)) (bits_in (drop k (take 8 bytes))) (8 * k) (omega (arith, length-bits_in (take k bytes), length-take-le k bytes (omega arith))) in
    sym (ap bits_in (take-append-drop k _)) ∙ flat_map-append (bits_of 8) (take k bytes) (drop k bytes) ∙ ap (λ (a : List Bool). a ++ bits_in (drop k bytes)) (sym same)

-- a word that is read at once has the bits of its eight bytes
pub word_bits : (bytes : List ℕ) → IsBytes bytes → 8 ≤ length bytes → bits_of 64 (from_be_bytes w64 bytes) ≡ bits_in (take 8 bytes)
word_bits bytes are long =
    let same : from_be_bytes w64 bytes ≡ from_be_bytes w64 (take 8 bytes) =
    omega (arith, get_or-take 8 bytes 0 0 (omega arith), get_or-take 8 bytes 1 0 (omega arith), get_or-take 8 bytes 2 0 (omega arith), get_or-take 8 bytes 3 0 (omega arith), get_or-take 8 bytes 4 0 (omega arith), get_or-take 8 bytes 5 0 (omega arith), get_or-take 8 bytes 6 0 (omega arith), get_or-take 8 bytes 7 0 (omega arith)) in
    ap (bits_of 64) same ∙ bits_of-from_be_bytes _ (length-take-le 8 _ long) (IsBytes-take 8 _ are)

-- a shift to the left keeps the low bits
pub shl_cut : (x j k : ℕ) → x * 2 ^ k % 2 ^ (j + k) ≡ (x % 2 ^ j) * 2 ^ k
shl_cut x j k =
    let parts = made_from x k _ refl in
    omega (arith, mod-pow-add (x * 2 ^ k) j k, parts.1, ap (λ q. (q % 2 ^ j) * 2 ^ k) parts.0)

-- a field is taken from the top
pub split : (word count n after new : ℕ) → IsBuffer word count → n ≤ count → after ≡ count - n → new ≡ word * 2 ^ n % 2 ^ 64 → IsBuffer new after × (top word count ≡ bits_of n (word / 2 ^ (64 - n)) ++ top new after)
split word count n after new b le after-is new-is =
    let h = word / 2 ^ (64 - count) in
    let moved : word * 2 ^ n ≡ h * 2 ^ (64 - after) =
    omega (arith, ap (λ w. w * 2 ^ n) (high_is _ _ b), ap (λ p. h * p) (sym (pow-add 2 _ n) ∙ same_power (64 - count + n) (64 - after) (omega arith))) in
    let sixty_four : 64 ≡ after + (64 - after) = omega arith in
    let whole : new ≡ (h % 2 ^ after) * 2 ^ (64 - after) = new-is ∙ ap (λ w. w % 2 ^ 64) moved ∙ ap (λ e. h * 2 ^ (64 - after) % 2 ^ e) sixty_four ∙ shl_cut h _ _ in
    let longer : 64 - count + after ≡ 64 - n = omega arith in
    let count-is : count ≡ n + after = omega arith in
    let made = made_from _ _ _ whole in
    let rest = ap (bits_of after) made.0 ∙ bits_of-mod _ h in
    let first = shr-shr _ _ _ ∙ ap (λ e. word / 2 ^ e) longer in (
      record { part = omega arith; clear = made.1 },
      ap (λ c. bits_of c h) count-is ∙ bits_of-append n after h ∙ ap (λ v. bits_of n v ++ bits_of after h) first ∙ ap (λ (a : List Bool). bits_of n (word / 2 ^ (64 - n)) ++ a) (sym rest),
    )

pub field_below : (word n : ℕ) → n ≤ 64 → word < 2 ^ 64 → word / 2 ^ (64 - n) < 2 ^ n
field_below word n le lt =
    let whole : 64 ≡ n + (64 - n) = omega arith in
    shr_below _ n _ (subst (λ e. word < 2 ^ e) whole lt)

pub length-buffered : (word count : ℕ) (bytes : List ℕ) → length (buffered word count bytes) ≡ count + 8 * length bytes
length-buffered _ count bytes = length-append _ _ ∙ ap (λ n. n + length (bits_in bytes)) (length-bits_of _ _) ∙ ap (λ n. count + n) (length-bits_in _)

-- the front of a list that begins with so many bits
pub front-joined : (n v : ℕ) (rest : List Bool) → v < 2 ^ n → front n (bits_of n v ++ rest) ≡ v
front-joined n v rest lt =
    ap number_of (ap (λ a. take n a) (append_assoc (bits_of n v) rest (replicate n false)) ∙ take_at _ _ n (length-bits_of n v)) ∙ number_of-bits_of n v ∙ mod-eq_of_lt lt

front_within : (word count n : ℕ) (bytes : List ℕ) → IsBuffer word count → word < 2 ^ 64 → n ≤ 64 → n ≤ count → word / 2 ^ (64 - n) ≡ front n (buffered word count bytes)
front_within word count n bytes b lt few le =
    let parts = split _ _ n _ _ b le refl refl in
    let v = word / 2 ^ (64 - n) in
    sym (ap (front n) (ap (λ a. a ++ bits_in bytes) parts.1 ∙ append_assoc (bits_of n v) (top (word * 2 ^ n % 2 ^ 64) (count - n)) (bits_in bytes)) ∙ front-joined n v _ (field_below _ n few lt))

-- past the end stand zeros
front_past : (word count n : ℕ) → IsBuffer word count → word < 2 ^ 64 → count < n → n ≤ 64 → word / 2 ^ (64 - n) ≡ front n (top word count)
front_past word count n b lt more few =
    let h = word / 2 ^ (64 - count) in
    let m = n - count in
    let v = h * 2 ^ m in
    let n-is : n ≡ count + m = omega arith in
    let n-is' : n ≡ m + count = omega arith in
    let zeros = ap (λ k. replicate k false) n-is' ∙ sym (replicate-append-replicate m _ _) in
    let longer =
    ap (λ k. bits_of k v) n-is ∙ ap (bits_of (count + m)) (omega arith) ∙ bits_of-joined _ m h 0 (pow_pos m) ∙ ap (λ a. bits_of count h ++ a) (bits_of-zero m) in
    let bits =
    ap (λ a. top word count ++ a) zeros ∙ sym (append_assoc (top word count) (replicate m false) (replicate count false)) ∙ ap (λ a. a ++ replicate count false) (sym longer) in
    let room : 64 - count ≡ m + (64 - n) = omega arith in
    let word-is : word ≡ v * 2 ^ (64 - n) = high_is _ _ b ∙ omega (arith, ap (λ p. h * p) (same_power _ _ room ∙ pow-add 2 m _)) in
    let value : word / 2 ^ (64 - n) ≡ v = (made_from v _ _ word-is).0 in
    let below = subst (λ w. w < 2 ^ n) value (field_below _ n few lt) in
    value ∙ sym (ap number_of (ap (λ a. take n a) bits ∙ take_at _ _ n (length-bits_of n v)) ∙ number_of-bits_of n v ∙ mod-eq_of_lt below)

pub front_is : (word count n : ℕ) (bytes : List ℕ) → IsBuffer word count → word < 2 ^ 64 → n ≤ 64 → (n ≤ count) ⊎ (bytes ≡ []) → word / 2 ^ (64 - n) ≡ front n (buffered word count bytes)
front_is word count n _ b lt few h =
    elim (cases_lt count n) [
      | inr le ↦ front_within _ _ n _ b lt few le
      | inl more ↦ elim h [
        | inl le ↦ absurd (omega arith)
        | inr none ↦ front_past _ _ n b lt more few ∙ sym (ap (front n) (ap (λ a. top word count ++ bits_in a) none ∙ append-nil (top word count)))
      ]
    ]

-- what the next eight bytes add
pub by_word : (word count k next : ℕ) (bytes : List ℕ) → IsBuffer word count → count < 56 → k ≡ (63 - count) / 8 → next < 2 ^ 64 → next ≡ from_be_bytes w64 bytes → IsBytes bytes → 8 ≤ length bytes
    → IsBuffer (bit_or word (next / 2 ^ (64 - 8 * k) * 2 ^ (64 - (count + 8 * k)) % 2 ^ 64)) (count + 8 * k)
    × (buffered (bit_or word (next / 2 ^ (64 - 8 * k) * 2 ^ (64 - (count + 8 * k)) % 2 ^ 64)) (count + 8 * k) (take (length bytes - k) (drop k bytes)) ≡ buffered word count bytes)
by_word word count k next bytes b room k-is lt next-is are long =
    let parts = first_bytes k next _ (omega arith) long (ap (bits_of 64) next-is ∙ word_bits _ are long) in
    let new = bit_or word (next / 2 ^ (64 - 8 * k) * 2 ^ (64 - (count + 8 * k)) % 2 ^ 64) in
    let filled = fill _ _ k _ _ _ _ _ b refl (omega arith) (field_below _ _ (omega arith) lt) parts refl in
    (filled.0, ap (buffered new (count + 8 * k)) (take_rest _ k) ∙ filled.1)

-- what one byte adds
pub by_byte : (word count byte : ℕ) (bytes : List ℕ) → IsBuffer word count → count < 56 → byte ≡ get_or bytes 0 0 → byte < 2 ^ 8 → (length bytes ≡ 0 → ⊥)
    → IsBuffer (bit_or word (byte * 2 ^ (56 - count) % 2 ^ 64)) (count + 8)
    × (buffered (bit_or word (byte * 2 ^ (56 - count) % 2 ^ 64)) (count + 8) (take (length bytes - 1) (drop 1 bytes)) ≡ buffered word count bytes)
by_byte _ _ _ [] b room byte-is lt some = absurd (some refl)
by_byte word count byte (first ∷ rest) b room byte-is lt some =
    let shift : 64 - (count + 8) ≡ 56 - count = omega arith in
    let new = bit_or word (byte * 2 ^ (56 - count) % 2 ^ 64) in
    let new-is = ap (λ k. bit_or word (byte * 2 ^ k % 2 ^ 64)) (sym shift) in
    let same = ap (λ b. bits_of 8 b ++ bits_in rest) (sym byte-is) in
    let done = fill _ _ 1 _ _ _ (first ∷ rest) _ b refl (omega arith) lt same new-is in
    (done.0, ap (buffered new (count + 8)) (take_rest (first ∷ rest) 1) ∙ done.1)

pub buffered-nil : (bytes : List ℕ) → buffered 0 0 bytes ≡ bits_in bytes
unfolding bits_of
buffered-nil _ = refl

-- a field that is taken, in front of what stays
pub taken : (word count n after new : ℕ) (bytes : List ℕ) → IsBuffer word count → n ≤ 63 → n ≤ count → after ≡ count - n → new ≡ word * 2 ^ n % 2 ^ 64
    → buffered word count bytes ≡ bits_of n (word / 2 / 2 ^ (63 - n)) ++ buffered new after bytes
taken word _ n after new bytes b few le after-is new-is =
    let parts = split _ _ n _ _ b le after-is new-is in
    let one = same_power _ _ (omega arith) in
    let value = ap (λ p. word / p) one ∙ sym (shr-shr _ 1 _) in
    ap (λ a. a ++ bits_in bytes) parts.1 ∙ append_assoc (bits_of n (word / 2 ^ (64 - n))) (top new after) (bits_in bytes) ∙ ap (λ v. bits_of n v ++ buffered new after bytes) value

pub taken_below : (word n : ℕ) → n ≤ 63 → word < 2 ^ 64 → word / 2 / 2 ^ (63 - n) < 2 ^ n
taken_below word n few lt =
    let one = same_power _ _ (omega arith) in
    let value = ap (λ p. word / p) one ∙ sym (shr-shr _ 1 _) in
    subst (λ v. v < 2 ^ n) value (field_below _ n (omega arith) lt)

-- as many bits wait as there are, where there are no more bytes
pub waits : (word count need : ℕ) (bytes : List ℕ) (bits : List Bool) → need ≤ length bits → buffered word count bytes ≡ bits → (need ≤ count) ⊎ (bytes ≡ []) → need ≤ count
waits _ _ _ _ _ has same (inl le) = le
waits word count _ bytes _ has same (inr none) = omega (arith, length-buffered word count bytes, ap length same, ap length none)

-- two fields are one
pub joined_fields : (count high low : ℕ) (bits middle after : List Bool) → high < 2 ^ (count - 32) → low < 2 ^ 32 → 32 < count → count ≤ 64 → bits ≡ bits_of (count - 32) high ++ middle → middle ≡ bits_of 32 low ++ after
    → (bits ≡ bits_of count (bit_or (high * 2 ^ 32 % 2 ^ 64) low) ++ after) × (bit_or (high * 2 ^ 32 % 2 ^ 64) low < 2 ^ count)
joined_fields count high low _ _ after p q more few e f =
    let j = count - 32 in
    let count-is : j + 32 ≡ count = omega arith in
    let shifted = shl_whole _ j 32 64 p (omega arith) in
    let number : bit_or (high * 2 ^ 32 % 2 ^ 64) low ≡ high * 2 ^ 32 + low = ap (λ w. bit_or w low) shifted ∙ or_shifted _ 32 _ q in
    let below : high * 2 ^ 32 + low < 2 ^ count = omega (arith, pow-add 2 j 32, same_power (j + 32) count count-is) in
    let both : bits_of count (bit_or (high * 2 ^ 32 % 2 ^ 64) low) ≡ bits_of j high ++ bits_of 32 low = ap (bits_of count) number ∙ ap (λ k. bits_of k (high * 2 ^ 32 + low)) (sym count-is) ∙ bits_of-joined j _ _ _ q in (
      e ∙ ap (λ a. bits_of j high ++ a) f ∙ sym (append_assoc (bits_of j high) (bits_of 32 low) after) ∙ ap (λ a. a ++ after) (sym both),
      subst (λ w. w < 2 ^ count) (sym number) below,
    )

pub fewer_wait : (n need count : ℕ) (bytes : List ℕ) → n ≤ need → (need ≤ count) ⊎ (bytes ≡ []) → (n ≤ count) ⊎ (bytes ≡ [])
fewer_wait n _ _ _ le (inl enough) = inl (omega arith)
fewer_wait n _ _ _ le (inr none) = inr none
