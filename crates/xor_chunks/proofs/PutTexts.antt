-- Samples of one chunk can be put one after another, and what is put is their text.
use Rattle.std.proofs.Common.{◌≡◌, ℕ, suc, ◌-◌, ◌^◌, ◌<◌, Bool, List, [], ◌∷◌, ◌++◌, length, map, All, Less, get_or, take, drop, refl, sym, ap, subst, ◌∙◌, append_assoc, arith, ℤ, pos, negsuc, ◌-ℤ◌, ◌≤ℤ◌, ◌<ℤ◌}
use Rattle.std.specs.Ordering.{int_cmp}
use Rattle.std.specs.List.Sorted.{IsStrictlySortedBy}
use Rattle.std.proofs.lemmas.Cmp.{int_ranked}
use Rattle.std.specs.Prelude.{unsigned_abs, bit_xor, FitsSigned}
use Rattle.std.specs.Int.{cast_signed, cast_unsigned, w16, w64, to_be_bytes}
use Rattle.std.proofs.lemmas.Int.{ints, to_z-of_z}
use Rattle.std.proofs.lemmas.List.{append-nil, take_all}
use Rattle.std.proofs.lemmas.List.Elements.{All-head, All-tail}
use Rattle.std.proofs.lemmas.List.Concat.{flat_map-append}
use Rattle.wire_bytes.specs.Written.{uvarint_text, varint_text}
use Rattle.label_sets.specs.declared.sample.Sample.{Sample}
use Rattle.xor_chunks.specs.declared.encoding.LastWritten.{LastWritten}
use Rattle.xor_chunks.specs.declared.encoding.WindowSetting.{WindowSetting}
use Rattle.xor_chunks.specs.declared.encoding.WindowSetting.TheVariants.{Unset}
use Rattle.wire_bytes.specs.Bits.{bits_of, bits_in}
use Rattle.xor_chunks.specs.Written.{IsChunkTime, CanFollow, AreToCome, AreOfChunk, put_after, put_first, value_bits, window_after, others_bits, rest_bits, written}
use Rattle.wire_bytes.proofs.BitLists.{bits_in-bytes}

record Apart (a b delta : ℤ) : Type 0 where
  low : pos 0 ≤ℤ delta
  high : delta <ℤ pos (2 ^ 63)

apart : (a b delta : ℤ) → negsuc (2 ^ 62 - 1) ≤ℤ a → b <ℤ pos (2 ^ 62) → a <ℤ b → delta ≡ b -ℤ a → Apart a b delta
apart a b _ low high lt e = record { low = omega (arith, ints); high = omega (arith, ints) }

pub to_come : (put : LastWritten) (ss : List Sample) → negsuc (2 ^ 62 - 1) ≤ℤ put.time → pos 0 ≤ℤ put.delta → put.delta <ℤ pos (2 ^ 63) → IsStrictlySortedBy int_cmp (put.time ∷ map (λ (s : Sample). s.time) ss) → All (λ (s : Sample). IsChunkTime s.time) ss → AreToCome put ss
unfolding IsStrictlySortedBy
to_come _ [] from low high ascend times = tt
to_come put (s ∷ ss) from low high ascend times =
    let later = int_ranked put.time s.time Less (sym ascend.0.0) in
    let below : s.time <ℤ pos (2 ^ 62) = (All-head (λ x. IsChunkTime x.time) s _ times).1 in
    let d = apart _ _ _ from below later refl in (
      record { rises = later; low = from; high = below; delta_low = low; delta_high = high },
      to_come (put_after put s) ss (omega (arith, ints, later, from)) d.low d.high ascend.1 (All-tail (λ (x : Sample). IsChunkTime x.time) s ss times),
    )

pub chunk_to_come : (s : Sample) (ss : List Sample) → AreOfChunk (s ∷ ss) → AreToCome (put_first s) ss
chunk_to_come s _ h = to_come _ _ (All-head (λ x. IsChunkTime x.time) s _ h.times).0 (omega arith) (omega arith) h.ascend (All-tail (λ x. IsChunkTime x.time) s _ h.times)

-- the bytes before the second sample
pub head_bits : (count pattern : ℕ) (time a b d : List ℕ) → a ≡ [] ++ to_be_bytes w16 count → b ≡ a ++ time → d ≡ b ++ to_be_bytes w64 pattern → bits_in d ≡ bits_of 16 count ++ bits_in time ++ bits_of 64 pattern
head_bits count pattern time a b d p q r =
    ap bits_in (r ∙ ap (λ x. x ++ to_be_bytes w64 pattern) (q ∙ ap (λ x. x ++ time) p))
    ∙ flat_map-append (bits_of 8) (to_be_bytes w16 count ++ time) (to_be_bytes w64 pattern)
    ∙ ap (λ x. x ++ bits_in (to_be_bytes w64 pattern)) (flat_map-append (bits_of 8) (to_be_bytes w16 count) time ∙ ap (λ x. x ++ bits_in time) (bits_in-bytes 2 _))
    ∙ ap (λ x. bits_of 16 count ++ bits_in time ++ x) (bits_in-bytes 8 _)

fits_from : (z : ℤ) → pos 0 ≤ℤ z → z <ℤ pos (2 ^ 63) → FitsSigned w64 z
fits_from (pos n) low high = record { sfits = omega (arith, ints) }
fits_from (negsuc n) low high = absurd (omega arith)

pub gap_text : (a b : ℤ) (n : ℕ) → FitsSigned w64 a → FitsSigned w64 b → n ≡ unsigned_abs (cast_signed w64 (cast_unsigned w64 b) -ℤ cast_signed w64 (cast_unsigned w64 a)) → uvarint_text n ≡ uvarint_text (unsigned_abs (b -ℤ a))
gap_text a b n fa fb e = let same = rw (to_z-of_z w64 a fa, to_z-of_z w64 b fb) at e in ap uvarint_text same

-- what is known of the first two samples, as the code hands its numbers on
pub second_put : (first second : Sample) (window : WindowSetting) → FitsSigned w64 first.time → FitsSigned w64 second.time → CanFollow (put_first first) second → window ≡ window_after Unset (bit_xor first.pattern second.pattern)
    → record { time = cast_signed w64 (cast_unsigned w64 second.time); delta = cast_signed w64 (cast_unsigned w64 (cast_signed w64 (cast_unsigned w64 second.time) -ℤ cast_signed w64 (cast_unsigned w64 first.time))); pattern = second.pattern; window = window } ≡ put_after (put_first first) second
second_put first second _ f t h e =
    let d = apart _ _ _ h.low h.high h.rises refl in
    let fits = fits_from _ d.low d.high in
    rw (to_z-of_z w64 second.time t, to_z-of_z w64 first.time f, to_z-of_z w64 (second.time -ℤ first.time) fits, e) refl

-- the bits after the first sample
pub rest_put : (first second : Sample) (others : List Sample) (put : LastWritten) (start after gap : List ℕ) (none begun more all : List Bool) → put ≡ put_after (put_first first) second → after ≡ start ++ gap → gap ≡ uvarint_text (unsigned_abs (second.time -ℤ first.time)) → begun ≡ bits_in after → none ≡ []
    → more ≡ begun ++ none ++ value_bits Unset (bit_xor first.pattern second.pattern) → all ≡ more ++ others_bits put others → all ≡ bits_in start ++ rest_bits (put_first first) (second ∷ others)
rest_put first second others _ start _ _ _ begun more _ same a g b n p q =
    let value = value_bits Unset (bit_xor first.pattern second.pattern) in
    let rest = others_bits (put_after (put_first first) second) others in
    let text = uvarint_text (unsigned_abs (second.time -ℤ first.time)) in
    let bytes = ap bits_in (a ∙ ap (λ x. start ++ x) g) ∙ flat_map-append (bits_of 8) start text in
    let here = ap (λ x. begun ++ x) n ∙ append-nil begun ∙ b ∙ bytes in
    q ∙ ap (λ s. more ++ others_bits s others) same ∙ ap (λ x. x ++ rest) (p ∙ ap (λ x. x ++ value) here)
    ∙ ap (λ x. x ++ rest) (append_assoc (bits_in start) (bits_in text) value) ∙ append_assoc (bits_in start) (bits_in text ++ value) rest

-- a list that is not empty
pub parts : (ss : List Sample) (d : Sample) → 0 < length ss → ss ≡ get_or ss 0 d ∷ take (length ss - 1) (drop 1 ss)
parts [] d some = absurd (omega arith)
parts (s ∷ ss) d some = ap (λ x. s ∷ x) (sym (take_all (suc (length ss) - 1) (drop 1 (s ∷ ss)) (omega arith)))

pub rest_to_come : (ss : List Sample) (d : Sample) → AreOfChunk ss → AreToCome (put_first (get_or ss 0 d)) (take (length ss - 1) (drop 1 ss))
rest_to_come _ d h =
    let e = parts _ d h.some in
    chunk_to_come _ _ (subst AreOfChunk e h)

-- the whole text
pub whole_put : (ss : List Sample) (d : Sample) (head : List ℕ) (all : List Bool) → 0 < length ss → bits_in head ≡ bits_of 16 (length ss) ++ bits_in (varint_text (get_or ss 0 d).time) ++ bits_of 64 (get_or ss 0 d).pattern
    → all ≡ bits_in head ++ rest_bits (put_first (get_or ss 0 d)) (take (length ss - 1) (drop 1 ss)) → all ≡ written ss
whole_put [] d _ _ some h e = absurd (omega arith)
whole_put (s ∷ ss) d _ _ some h e =
    let rest = take_all (suc (length ss) - 1) (drop 1 (s ∷ ss)) (omega arith) in
    e ∙ ap (λ x. x ++ rest_bits (put_first s) (take (suc (length ss) - 1) (drop 1 (s ∷ ss)))) h ∙ ap (λ x. bits_of 16 (suc (length ss)) ++ bits_in (varint_text s.time) ++ bits_of 64 s.pattern ++ rest_bits (put_first s) x) rest
