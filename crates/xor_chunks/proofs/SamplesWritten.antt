-- Samples that the writer puts one after another are in the grammar, and so is their whole text.
use Rattle.std.proofs.Common.{◌≡◌, ℕ, zero, suc, ◌-◌, ◌%◌, ◌^◌, ◌<◌, ◌≤◌, Bool, false, List, [], ◌∷◌, ◌++◌, length, get_or, take, drop, refl, sym, ap, subst, ◌∙◌, append_assoc, length-append, arith, ℤ, pos, negsuc, ◌-ℤ◌, ◌+ℤ◌, ◌≤ℤ◌, ◌<ℤ◌}
use Rattle.std.specs.Prelude.{bit_xor, unsigned_abs, replicate, FitsSigned}
use Rattle.std.specs.Int.{w16, w64, byte_at, bytes_high_first, to_be_bytes}
use Rattle.std.proofs.lemmas.Int.{ints}
use Rattle.std.proofs.lemmas.List.{take_at, drop_at, take_all}
use Rattle.std.proofs.lemmas.List.Elements.{All-cons, All-head, All-tail}
use Rattle.base.specs.Grammar.{IsBytes}
use Rattle.wire_bytes.specs.FieldTexts.{IsGroups}
use Rattle.wire_bytes.specs.Written.{uvarint_text, varint_text}
use Rattle.wire_bytes.proofs.GroupTexts.{uvarint_text_is, varint_text_is}
use Rattle.base.proofs.Fronts.{IsBytes-after}
use Rattle.base.proofs.SignedRanges.{pos-unsigned_abs}
use Rattle.label_sets.specs.declared.sample.Sample.{Sample}
use Rattle.xor_chunks.specs.State.{State}
use Rattle.xor_chunks.specs.declared.encoding.LastWritten.{LastWritten}
use Rattle.wire_bytes.specs.Bits.{bits_of, bits_in, filled}
use Rattle.xor_chunks.specs.declared.encoding.WindowSetting.TheVariants.{Unset}
use Rattle.xor_chunks.specs.Written.{CanFollow, IsChunkTime, AreToCome, AreOfChunk, ArePatterns, put_after, put_first, change_bits, value_bits, window_after, next_bits, others_bits, rest_bits, written}
use Rattle.xor_chunks.specs.Grammar.{Follows, IsNext, AreOthers, AreRest, AreFromFirst, IsText}
use Rattle.wire_bytes.proofs.BitLists.{length-bits_of, same_from_bits_of, bits_in-bytes}
use Rattle.xor_chunks.proofs.PutTexts.{chunk_to_come}
use Rattle.xor_chunks.proofs.Times.{fits_both}
use Rattle.xor_chunks.proofs.ValuesWritten.{seen, IsSeen, value_written, kept_seen, step_written}

-- ---- bytes from their bits

nil_bytes : (i : ℕ) → get_or {A = ℕ} [] i 0 < 256
nil_bytes i = omega arith

cons_bytes : (b : ℕ) (bs : List ℕ) → b < 256 → IsBytes bs → (i : ℕ) → get_or (b ∷ bs) i 0 < 256
cons_bytes b _ lt are zero = lt
cons_bytes b _ lt are (suc i) = are i

groups_bytes : (text : List ℕ) (n : ℕ) → IsGroups text n → IsBytes text
groups_bytes [] n h = absurd h
groups_bytes (last ∷ []) n h = cons_bytes _ [] (omega arith) nil_bytes
groups_bytes (low ∷ next ∷ others) n h = cons_bytes _ (next ∷ others) h.1 (groups_bytes (next ∷ others) _ h.4)

byte_small : (i n : ℕ) → byte_at i n < 256
byte_small zero n = omega arith
byte_small (suc i) n = omega arith

high_first_bytes : (k n : ℕ) → IsBytes (bytes_high_first k n)
high_first_bytes zero n = nil_bytes
high_first_bytes (suc k) n = cons_bytes _ _ (byte_small k n) (high_first_bytes k n)

bits_split : (front bytes : List ℕ) (more : List Bool) → IsBytes bytes → IsBytes front → bits_in bytes ≡ bits_in front ++ more → (after : List ℕ) × (bytes ≡ front ++ after) × (bits_in after ≡ more)
bits_split [] bytes _ are front_are e = (bytes, refl, e)
bits_split (b ∷ front) [] more are front_are e =
    absurd (omega (arith, ap length e, length-append (bits_of 8 b ++ bits_in front) more, length-append (bits_of 8 b) (bits_in front), length-bits_of 8 b))
bits_split (b ∷ front) (c ∷ bytes) more are front_are e =
    let flat : bits_of 8 c ++ bits_in bytes ≡ bits_of 8 b ++ (bits_in front ++ more) = e ∙ append_assoc (bits_of 8 b) (bits_in front) more in
    let heads : bits_of 8 c ≡ bits_of 8 b = sym (take_at _ _ 8 (length-bits_of 8 c)) ∙ ap (take 8) flat ∙ take_at _ (bits_in front ++ more) 8 (length-bits_of 8 b) in
    let tails : bits_in bytes ≡ bits_in front ++ more = sym (drop_at (bits_of 8 c) (bits_in bytes) 8 (length-bits_of 8 c)) ∙ ap (drop 8) flat ∙ drop_at (bits_of 8 b) (bits_in front ++ more) 8 (length-bits_of 8 b) in
    let same : c ≡ b = same_from_bits_of 8 c b (are 0) (front_are 0) heads in
    let h = bits_split front _ _ (λ i. are (suc i)) (λ i. front_are (suc i)) tails in
    (h.0, ap (λ n. n ∷ bytes) same ∙ ap (λ a. b ∷ a) h.1, h.2)

-- ---- samples

-- the state where the writer knows this
abbrev pub last_of : LastWritten → State
last_of put = record { time = put.time; delta = unsigned_abs put.delta; pattern = put.pattern; window = seen put.window }

record Between (a b d : ℤ) : Type 0 where
  nonneg : pos 0 ≤ℤ (b -ℤ a)
  small : unsigned_abs (b -ℤ a) < 2 ^ 64
  fits : FitsSigned w64 ((b -ℤ a) -ℤ d)
  longer : pos (unsigned_abs (b -ℤ a)) ≡ pos (unsigned_abs d) +ℤ ((b -ℤ a) -ℤ d)
  follows : Follows a b (unsigned_abs (b -ℤ a))

between : (a b d : ℤ) → a <ℤ b → negsuc (2 ^ 62 - 1) ≤ℤ a → b <ℤ pos (2 ^ 62) → pos 0 ≤ℤ d → d <ℤ pos (2 ^ 63) → Between a b d
between a b d lt low high d_low d_high =
    let nonneg : pos 0 ≤ℤ (b -ℤ a) = omega (arith, ints, lt) in
    let step = pos-unsigned_abs _ nonneg in
    let before = pos-unsigned_abs d d_low in
    record {
      nonneg = nonneg;
      fits = fits_both ((b -ℤ a) -ℤ d) (omega (arith, ints, lt, d_high)) (omega (arith, ints, low, high, d_low));
      small = omega (arith, ints, step, low, high);
      longer = omega (arith, ints, step, before);
      follows = record { later = omega (arith, ints, step); rises = omega (arith, ints, step, lt); fits = fits_both b (omega (arith, ints, low, lt)) (omega (arith, ints, high)) };
    }

next_written : (put : LastWritten) (s : Sample) → CanFollow put s → IsSeen put.window → put.pattern < 2 ^ 64 → s.pattern < 2 ^ 64 → IsNext (last_of put) (next_bits put s) (last_of (put_after put s))
next_written put s h are b p =
    let t = between put.time _ _ h.rises h.low h.high h.delta_low h.delta_high in
    record {
      change = (s.time -ℤ put.time) -ℤ put.delta;
      step = change_bits ((s.time -ℤ put.time) -ℤ put.delta);
      value = value_bits put.window (bit_xor put.pattern s.pattern);
      text = refl;
      changes = step_written ((s.time -ℤ put.time) -ℤ put.delta) t.fits;
      longer = t.longer;
      follows = t.follows;
      shows = value_written put.window put.pattern s.pattern are b p;
    }

first_pattern : (s : Sample) (ss : List Sample) → ArePatterns (s ∷ ss) → s.pattern < 2 ^ 64
first_pattern s _ ps = All-head (λ x. x.pattern < 2 ^ 64) s _ ps

other_patterns : (s : Sample) (ss : List Sample) → ArePatterns (s ∷ ss) → ArePatterns ss
other_patterns s _ ps = All-tail (λ x. x.pattern < 2 ^ 64) s _ ps

-- the first sample's pattern, and those of the others, as the code hands them on
pub all_patterns : (ss : List Sample) (d : Sample) → 0 < length ss → (get_or ss 0 d).pattern < 2 ^ 64 → ArePatterns (take (length ss - 1) (drop 1 ss)) → ArePatterns ss
all_patterns [] d some p ps = absurd (omega arith)
all_patterns (s ∷ ss) d some p ps = All-cons (λ x. x.pattern < 2 ^ 64) s _ p (subst ArePatterns (take_all (suc (length ss) - 1) ss (omega arith)) ps)

others_written : (put : LastWritten) (ss : List Sample) → AreToCome put ss → IsSeen put.window → put.pattern < 2 ^ 64 → ArePatterns ss → AreOthers (last_of put) (others_bits put ss) ss
others_written _ [] h are b ps = refl
others_written put (s ∷ ss) h are b ps =
    let p = first_pattern s _ ps in (
      last_of (put_after put s),
      next_bits put s,
      others_bits (put_after put s) ss,
      refl,
      next_written _ s h.0 are b p,
      refl,
      others_written (put_after put s) ss h.1 (kept_seen _ _ _ are b p) p (other_patterns s _ ps),
    )

rest_written : (s : Sample) (ss : List Sample) (bytes : List ℕ) (z : List Bool) → AreToCome (put_first s) ss → s.pattern < 2 ^ 64 → ArePatterns ss → IsBytes bytes → bits_in bytes ≡ rest_bits (put_first s) ss ++ z → AreRest s bytes ss z
rest_written s [] bytes z h p ps are e = e
rest_written s (t ∷ ss) _ z h p ps are e =
    let q = first_pattern t _ ps in
    let gap = unsigned_abs (t.time -ℤ s.time) in
    let text = uvarint_text gap in
    let value = value_bits Unset (bit_xor s.pattern t.pattern) in
    let rest = others_bits (put_after (put_first s) t) ss in
    let b = between _ _ _ h.0.rises h.0.low h.0.high h.0.delta_low h.0.delta_high in
    let is = uvarint_text_is _ b.small in
    let split = bits_split _ _ _ are (groups_bytes _ _ is.groups) (e ∙ append_assoc (bits_in text ++ value) rest z ∙ append_assoc (bits_in text) value (rest ++ z)) in
    record {
      gap = gap;
      after = split.0;
      gap_is = (text, is, split.1);
      value = value;
      window = seen (window_after Unset (bit_xor s.pattern t.pattern));
      rest = rest;
      bits_are = split.2;
      follows = b.follows;
      shows = value_written Unset s.pattern t.pattern tt p q;
      others_are = others_written (put_after (put_first s) t) ss h.1 (kept_seen Unset s.pattern t.pattern tt p q) q (other_patterns t ss ps);
    }

first_written : (s : Sample) (ss : List Sample) (bytes : List ℕ) (z : List Bool) → AreOfChunk (s ∷ ss) → s.pattern < 2 ^ 64 → ArePatterns ss → IsBytes bytes
    → bits_in bytes ≡ bits_in (varint_text s.time) ++ (bits_of 64 s.pattern ++ (rest_bits (put_first s) ss ++ z)) → AreFromFirst bytes s ss z
first_written s ss bytes z h p ps are e =
    let rest = rest_bits (put_first s) ss in
    let near = All-head (λ (x : Sample). IsChunkTime x.time) s _ h.times in
    let fits = fits_both _ (omega (arith, ints, near.0)) (omega (arith, ints, near.1)) in
    let is = varint_text_is _ fits in
    let time = bits_split _ _ _ are (groups_bytes _ _ is.groups) e in
    let are_after = IsBytes-after _ _ _ time.1 are in
    let pattern = bits_split (to_be_bytes w64 s.pattern) _ _ are_after (high_first_bytes 8 s.pattern) (time.2 ∙ ap (λ a. a ++ (rest ++ z)) (sym (bits_in-bytes 8 _))) in
    record {
      after_time = time.0;
      after = pattern.0;
      time_is = (varint_text s.time, is, time.1);
      pattern_is = (to_be_bytes w64 s.pattern, record { digits = refl; fits = p }, pattern.1);
      rest_are = rest_written s ss pattern.0 z (chunk_to_come s ss h) p ps (IsBytes-after (to_be_bytes w64 s.pattern) pattern.0 time.0 pattern.1 are_after) pattern.2;
    }

filling_few : (n : ℕ) → (8 - n % 8) % 8 ≤ 7
filling_few n = omega arith

pub text_written : (ss : List Sample) (bytes : List ℕ) → AreOfChunk ss → ArePatterns ss → IsBytes bytes → bits_in bytes ≡ filled (written ss) → IsText 7 bytes ss
text_written [] bytes h ps are e = absurd (omega (arith, h.some))
text_written (s ∷ ss) bytes h ps are e =
    let n = suc (length ss) in
    let k = (8 - length (written (s ∷ ss)) % 8) % 8 in
    let z = replicate k false in
    let time = bits_in (varint_text s.time) in
    let rest = rest_bits (put_first s) ss in
    let parts =
    e ∙ append_assoc (bits_of 16 n ++ time ++ bits_of 64 s.pattern) rest z ∙ append_assoc (bits_of 16 n ++ time) (bits_of 64 s.pattern) (rest ++ z) ∙ append_assoc (bits_of 16 n) time (bits_of 64 s.pattern ++ (rest ++ z)) in
    let count = bits_split (to_be_bytes w16 n) _ _ are (high_first_bytes 2 n) (parts ∙ ap (λ a. a ++ (time ++ (bits_of 64 s.pattern ++ (rest ++ z)))) (sym (bits_in-bytes 2 n))) in
    record {
      after = count.0;
      left = k;
      counted = (to_be_bytes w16 n, record { digits = refl; fits = h.few }, count.1);
      samples_are = first_written s ss count.0 z h (first_pattern s ss ps) (other_patterns s ss ps) (IsBytes-after (to_be_bytes w16 n) count.0 bytes count.1 are) count.2;
      filling = filling_few (length (written (s ∷ ss)));
    }
