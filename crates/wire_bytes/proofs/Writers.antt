-- What is put behind bits that wait in a word, and what goes out in bytes.
use Rattle.std.proofs.Common.{◌≡◌, ℕ, ◌+◌, ◌-◌, ◌*◌, ◌/◌, ◌%◌, ◌^◌, ◌<◌, ◌≤◌, Bool, false, List, [], ◌++◌, length, take, drop, refl, sym, ap, subst, ◌∙◌, append_assoc, arith, length-append, bit_or}
use Rattle.std.specs.Prelude.{replicate}
use Rattle.std.specs.Int.{to_be_bytes, w64, div_ceil}
use Rattle.std.proofs.lemmas.List.{take_at, take-append-drop, append-nil, length-take-le, replicate-append-replicate, length-replicate}
use Rattle.std.proofs.lemmas.List.Concat.{flat_map-append}
use Rattle.std.proofs.lemmas.Nat.{pow_pos, pow-add, shr-shr, shl-shr, mul-mod_first, mod_below, shr_below}
use Rattle.wire_bytes.specs.Bits.{bits_of, bits_in, filled}
use Rattle.wire_bytes.specs.Buffer.{top, IsBuffer}
use Rattle.wire_bytes.specs.Writing.{written_bits}
use Rattle.wire_bytes.proofs.BitLists.{length-bits_of, bits_of-mod, bits_of-append, bits_of-zero, bits_in-to_be_bytes, length-bits_in, bits_of-nil}
use Rattle.wire_bytes.proofs.Buffers.{add_field, shl_cut, same_power, made_from, high_is, bits_of-joined}

pub top-none : (word : ℕ) → top word 0 ≡ []
top-none _ = bits_of-nil _

-- what the bits that are put look like at the top of a word
bits_at_top : (value n : ℕ) → n ≤ 64 → value * 2 ^ (64 - n) % 2 ^ 64 ≡ (value % 2 ^ n) * 2 ^ (64 - n)
bits_at_top value n few =
    let sixty_four : 64 ≡ n + (64 - n) = omega arith in
    ap (λ e. value * 2 ^ (64 - n) % 2 ^ e) sixty_four ∙ shl_cut _ n _

replicate_parts : (n j k : ℕ) → n ≡ j + k → replicate n false ≡ replicate j false ++ replicate k false
replicate_parts n j k e = ap (λ m. replicate m false) e ∙ sym (replicate-append-replicate j k _)

-- there is room for all of them
pub put_within : (word count value n bits new : ℕ) → IsBuffer word count → n ≤ 64 → count + n < 64 → bits ≡ value * 2 ^ (64 - n) % 2 ^ 64 → new ≡ bit_or word (bits / 2 ^ count)
    → IsBuffer new (count + n) × (top new (count + n) ≡ top word count ++ bits_of n value)
put_within word count value n bits _ b few room bits-is new-is =
    let v = value % 2 ^ n in
    let shift : 64 - n ≡ 64 - (count + n) + count = omega arith in
    let at : bits ≡ v * 2 ^ (64 - (count + n)) * 2 ^ count = bits-is ∙ bits_at_top _ n few ∙ omega (arith, ap (λ p. v * p) (same_power _ _ shift ∙ pow-add 2 _ _)) in
    let field : bits / 2 ^ count ≡ v * 2 ^ (64 - (count + n)) = (made_from _ _ _ at).0 in
    let added = add_field _ _ n v _ _ b refl (omega arith) (mod_below _ _ (pow_pos n)) (new-is ∙ ap (bit_or word) field) in
    (record { part = room; clear = added.0 }, added.1 ∙ ap (λ a. top word count ++ a) (bits_of-mod n _))

-- the word is filled, and the rest waits in the next one
pub put_past : (word count value n bits new rest : ℕ) → IsBuffer word count → n ≤ 64 → 64 ≤ count + n → bits ≡ value * 2 ^ (64 - n) % 2 ^ 64 → new ≡ bit_or word (bits / 2 ^ count)
    → rest ≡ bits * 2 % 2 ^ 64 * 2 ^ (63 - count) % 2 ^ 64
    → IsBuffer rest (count + n - 64) × (bits_of 64 new ++ top rest (count + n - 64) ≡ top word count ++ bits_of n value)
put_past word count value n bits new rest b few past bits-is new-is rest-is =
    let v = value % 2 ^ n in
    let v-lt = mod_below _ _ (pow_pos n) in
    let over = count + n - 64 in
    let at = bits-is ∙ bits_at_top _ n few in
    let gone : 64 - n + over ≡ count = omega arith in
    let field = ap (λ w. w / 2 ^ count) at ∙ ap (λ e. v * 2 ^ (64 - n) / 2 ^ e) (sym gone) ∙ sym (shr-shr _ _ _) ∙ ap (λ w. w / 2 ^ over) (shl-shr v _) in
    let used : 64 ≡ count + (64 - count) = omega arith in
    let n-is : n ≡ 64 - count + over = omega arith in
    let v1-lt = shr_below v _ _ (subst (λ e. v < 2 ^ e) n-is v-lt) in
    let field' = field ∙ omega arith in
    let added = add_field _ _ _ _ _ _ b used (omega arith) v1-lt (new-is ∙ ap (bit_or word) field') in
    let full : bits_of 64 new ≡ top word count ++ bits_of (64 - count) (v / 2 ^ over) = ap (bits_of 64) (omega arith) ∙ added.1 in
    let shift : 64 - n + (64 - count) ≡ 64 - over = omega arith in
    let one : 1 + (63 - count) ≡ 64 - count = omega arith in
    let doubled : 2 ^ (64 - count) ≡ 2 * 2 ^ (63 - count) = same_power _ _ (sym one) ∙ pow-add 2 1 _ in
    let both : v * (2 ^ (64 - n) * 2 ^ (64 - count)) ≡ v * 2 ^ (64 - over) = ap (λ p. v * p) (sym (pow-add 2 _ _) ∙ same_power _ _ shift) in
    let moved : bits * 2 * 2 ^ (63 - count) ≡ v * 2 ^ (64 - over) = omega (arith, ap (λ p. bits * p) doubled, ap (λ w. w * 2 ^ (64 - count)) at, both) in
    let sixty_four : 64 ≡ over + (64 - over) = omega arith in
    let whole : rest ≡ (v % 2 ^ over) * 2 ^ (64 - over) =
    rest-is ∙ mul-mod_first (bits * 2) (2 ^ (63 - count)) (2 ^ 64) ∙ ap (λ w. w % 2 ^ 64) moved ∙ ap (λ e. v * 2 ^ (64 - over) % 2 ^ e) sixty_four ∙ shl_cut v _ _ in
    let made = made_from _ _ _ whole in
    let low : top rest over ≡ bits_of over v = ap (bits_of over) made.0 ∙ bits_of-mod _ v in
    let halves : bits_of n value ≡ bits_of (64 - count) (v / 2 ^ over) ++ bits_of over v =
    sym (bits_of-mod n _) ∙ ap (λ k. bits_of k v) n-is ∙ bits_of-append _ _ v in
    let small : over < 64 = omega arith in (
      record { part = small; clear = made.1 },
      ap (λ (a : List Bool). a ++ top rest over) full ∙ append_assoc (top word count) (bits_of (64 - count) (v / 2 ^ over)) (top rest over) ∙ ap (λ (a : List Bool). top word count ++ (bits_of (64 - count) (v / 2 ^ over) ++ a)) low ∙ ap (λ (a : List Bool). top word count ++ a) (sym halves),
    )

-- a word is the bits that wait, and zeros
word_bits : (word count : ℕ) → IsBuffer word count → bits_of 64 word ≡ top word count ++ replicate (64 - count) false
word_bits word count b =
    let h = word / 2 ^ (64 - count) in
    let sixty_four : 64 ≡ count + (64 - count) = omega arith in
    let value = high_is _ _ b ∙ omega arith in
    ap (bits_of 64) value ∙ ap (λ k. bits_of k (h * 2 ^ (64 - count) + 0)) sixty_four ∙ bits_of-joined _ _ h 0 (pow_pos _) ∙ ap (λ a. top word count ++ a) (bits_of-zero _)

-- the first bytes of a word hold the bits that wait, and the zeros of the last byte
first_bytes_of : (word count used : ℕ) → IsBuffer word count → count ≤ 8 * used → used ≤ 8 → bits_in (take used (to_be_bytes w64 word)) ≡ top word count ++ replicate (8 * used - count) false
first_bytes_of word count used b enough few =
    let bytes = to_be_bytes w64 word in
    let zeros = replicate_parts _ _ _ (omega arith) in
    let by_bits =
    bits_in-to_be_bytes _ ∙ word_bits _ _ b ∙ ap (λ a. top word count ++ a) zeros ∙ sym (append_assoc (top word count) (replicate (8 * used - count) false) (replicate (64 - 8 * used) false)) in
    let by_bytes : bits_in bytes ≡ bits_in (take used bytes) ++ bits_in (drop used bytes) = sym (ap bits_in (take-append-drop used _)) ∙ flat_map-append (bits_of 8) (take used bytes) (drop used bytes) in
    let len : length (bits_in (take used bytes)) ≡ 8 * used = length-bits_in _ ∙ ap (λ n. 8 * n) (length-take-le _ _ few) in
    let len' : length (top word count ++ replicate (8 * used - count) false) ≡ 8 * used = omega (arith, length-append (top word count) (replicate (8 * used - count) false), length-bits_of count (word / 2 ^ (64 - count)), length-replicate (8 * used - count) false) in
    sym (take_at _ _ _ len) ∙ ap (λ (a : List Bool). take (8 * used) a) (sym by_bytes ∙ by_bits) ∙ take_at _ _ _ len'

-- what waits goes out in whole bytes
pub finished : (bytes : List ℕ) (word count used : ℕ) → IsBuffer word count → used ≡ div_ceil count 8 → bits_in (bytes ++ take used (to_be_bytes w64 word)) ≡ filled (written_bits bytes word count)
finished bytes word count used b used-is =
    let len : length (written_bits bytes word count) ≡ 8 * length bytes + count = omega (arith, length-append (bits_in bytes) (top word count), length-bits_in bytes, length-bits_of count (word / 2 ^ (64 - count))) in
    let zeros : 8 * used - count ≡ (8 - length (written_bits bytes word count) % 8) % 8 = omega (arith, len, used-is) in
    flat_map-append (bits_of 8) _ _ ∙ ap (λ (a : List Bool). bits_in bytes ++ a) (first_bytes_of _ _ _ b (omega arith) (omega arith))
    ∙ sym (append_assoc (bits_in bytes) (top word count) (replicate (8 * used - count) false)) ∙ ap (λ n. written_bits bytes word count ++ replicate n false) zeros

pub nothing_written : (bytes : List ℕ) → bytes ≡ [] → written_bits bytes 0 0 ≡ []
nothing_written _ e = ap (λ b. written_bits b 0 0) e ∙ top-none 0

pub puts_within : (after bytes : List ℕ) (old : List Bool) (word count value n bits new : ℕ) → IsBuffer word count → n ≤ 64 → count + n < 64 → bits ≡ value * 2 ^ (64 - n) % 2 ^ 64 → new ≡ bit_or word (bits / 2 ^ count)
    → after ≡ bytes → written_bits bytes word count ≡ old → written_bits after new (count + n) ≡ old ++ bits_of n value
puts_within _ bytes _ word count value n _ new b few room bits-is new-is same old-is =
    let put = put_within _ _ _ n _ _ b few room bits-is new-is in
    ap (λ a. written_bits a new (count + n)) same ∙ ap (λ a. bits_in bytes ++ a) put.1 ∙ sym (append_assoc (bits_in bytes) (top word count) (bits_of n value)) ∙ ap (λ a. a ++ bits_of n value) old-is

pub puts_past : (after bytes : List ℕ) (old : List Bool) (word count value n bits new rest : ℕ) → IsBuffer word count → n ≤ 64 → 64 ≤ count + n → bits ≡ value * 2 ^ (64 - n) % 2 ^ 64 → new ≡ bit_or word (bits / 2 ^ count)
    → rest ≡ bits * 2 % 2 ^ 64 * 2 ^ (63 - count) % 2 ^ 64 → after ≡ bytes ++ to_be_bytes w64 new → written_bits bytes word count ≡ old → written_bits after rest (count + n - 64) ≡ old ++ bits_of n value
puts_past _ bytes _ word count value n _ new rest b few past bits-is new-is rest-is same old-is =
    let put = put_past _ _ _ n _ _ _ b few past bits-is new-is rest-is in
    let over = count + n - 64 in
    let out = flat_map-append (bits_of 8) bytes (to_be_bytes w64 new) ∙ ap (λ a. bits_in bytes ++ a) (bits_in-to_be_bytes _) in
    ap (λ a. written_bits a rest over) same ∙ ap (λ a. a ++ top rest over) out ∙ append_assoc (bits_in bytes) (bits_of 64 new) (top rest over) ∙ ap (λ a. bits_in bytes ++ a) put.1
    ∙ sym (append_assoc (bits_in bytes) (top word count) (bits_of n value)) ∙ ap (λ a. a ++ bits_of n value) old-is

pub behind_bytes : (bytes : List ℕ) → written_bits bytes 0 0 ≡ bits_in bytes
behind_bytes bytes = ap (λ a. bits_in bytes ++ a) (top-none 0) ∙ append-nil (bits_in bytes)
