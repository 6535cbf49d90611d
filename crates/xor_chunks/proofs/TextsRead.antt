-- Whole texts: what is read is in the grammar, and what is in the grammar is read.
use Rattle.std.proofs.Common.{◌≡◌, ℕ, zero, suc, ◌+◌, ◌*◌, ◌≤◌, Bool, true, false, List, [], ◌∷◌, ◌++◌, length, Result, Ok, Err, refl, sym, ap, subst, ◌∙◌, length-append, arith, inl, inr, ◌⊎◌, pos}
use Rattle.std.specs.Prelude.{nat_le, replicate, ◌==◌, IfOk}
use Rattle.std.specs.Int.{w16, w64}
use Rattle.std.proofs.lemmas.Bool.{eqb-true, and_parts, leb-true, le-leb}
use Rattle.std.proofs.lemmas.Int.{ints}
use Rattle.std.proofs.lemmas.Result.{IfOk-weaker}
use Rattle.std.proofs.lemmas.List.{length-replicate}
use Rattle.base.specs.Reading.{Gives}
use Rattle.base.specs.Grammar.{IsBytes, HasFront}
use Rattle.base.specs.Members.{members_at}
use Rattle.base.proofs.Fronts.{IsBytes-after}
use Rattle.base.proofs.Binds.{ok_is}
use Rattle.wire_bytes.specs.Position.{left, further, start}
use Rattle.wire_bytes.specs.Fields.{number_at, varint_at}
use Rattle.wire_bytes.specs.FieldTexts.{IsFixed, IsUvarint, IsVarint}
use Rattle.wire_bytes.proofs.FieldLaws.{varint_found, varint_again, left_after}
use Rattle.wire_bytes.proofs.FixedLaws.{wide16, wide64, number_found, number_again}
use Rattle.label_sets.specs.declared.sample.Sample.{Sample}
use Rattle.xor_chunks.specs.State.{State}
use Rattle.xor_chunks.specs.declared.refusal.XorRefusal.{XorRefusal}
use Rattle.xor_chunks.specs.declared.refusal.XorRefusal.TheVariants.{NoMemory}
use Rattle.wire_bytes.specs.Bits.{bits_of, number_of}
use Rattle.xor_chunks.specs.Samples.{of_first}
use Rattle.xor_chunks.specs.Data.{count_at, first_at, sample_at, others_at, rest_at, samples_at, is_filling, data_at}
use Rattle.xor_chunks.specs.Grammar.{AreOthers, AreRest, AreSamples, IsText}
use Rattle.xor_chunks.specs.Window.{whole, IsInside}
use Rattle.base.proofs.Bound.{OfValue, of_ok, of_bind, of_unless, of_bind_as, of_gives}
use Rattle.xor_chunks.proofs.FieldsRead.{HasText, value_inside}
use Rattle.wire_bytes.proofs.BitLists.{bits_of-number_of, bits_of-zero, length-bits_in}
use Rattle.xor_chunks.proofs.Takes.{number_of-zeros}
use Rattle.xor_chunks.proofs.SamplesRead.{follow_found, follow_again, others_found, others_again, value_some, others_few, gap_found, gap_again}

others_at_found : (count : ℕ) (last : State) (bits : List Bool) → OfValue (others_at count last bits) (λ x. (length x.0 ≡ count) × HasText (λ text ss. AreOthers last text ss) bits x.0 x.1)
unfolding others_at
others_at_found _ _ _ = of_bind _ (others_found _ _ _) (λ x h. of_ok h)

others_at_again : (count : ℕ) (last end : State) (bits : List Bool) (samples : List Sample) (after : List Bool) → members_at sample_at count (last, bits) ≡ Ok (samples, (end, after)) → others_at count last bits ≡ Ok (samples, after)
unfolding others_at
others_at_again _ _ _ _ _ _ e = rw e refl

-- ---- from the second sample on

rest_found : (count : ℕ) (first : Sample) (bytes : List ℕ) → IsBytes bytes → OfValue (rest_at count (of_first first) bytes) (λ x. (length x.0 ≡ count) × AreRest first bytes x.0 x.1)
unfolding rest_at
rest_found zero _ _ are = of_ok (refl, refl)
rest_found (suc count) _ bytes are =
    of_bind _ (gap_found _ are) (λ gap g. of_bind _ (follow_found _ _ _) (λ second s.
    of_bind _ (others_at_found _ _ _) (λ others o. of_ok (
      ap suc o.0,
      record {
        gap = second.0.delta;
        after = gap.1;
        gap_is = subst (λ (n : ℕ). HasFront IsUvarint bytes n gap.1) (let longer = s.is.0 in omega (arith, ints, longer)) g;
        value = s.text;
        window = second.0.window;
        rest = o.1.text;
        bits_are = s.whole ∙ ap (λ (a : List Bool). s.text ++ a) o.1.whole;
        follows = s.is.1;
        shows = s.is.2;
        others_are = o.1.is;
      },
    ))))

rest_again : (first : Sample) (bytes : List ℕ) (samples : List Sample) (after : List Bool) → AreRest first bytes samples after → rest_at (length samples) (of_first first) bytes ≡ Ok (samples, after)
unfolding rest_at
rest_again _ _ [] _ h = ap (λ (a : List Bool). Ok ([], a)) h
rest_again first bytes (s ∷ ss) after h =
    let inside : IsInside whole = omega arith in
    let second : State = record { time = s.time; delta = h.gap; pattern = s.pattern; window = h.window } in
    let read = follow_again (of_first first) (pos h.gap) h.value second (h.rest ++ after) inside (omega (arith, ints)) h.follows h.shows in
    let others = others_again ss second h.rest after (value_inside whole first.pattern h.value s.pattern h.window inside h.shows) h.others_are in
    rw (gap_again bytes h.gap h.after h.gap_is, h.bits_are, read, others_at_again (length ss) second others.0 (h.rest ++ after) ss after others.1) refl

-- ---- from the first

first_found : (bytes : List ℕ) → IsBytes bytes → OfValue (first_at bytes) (λ x. (middle : List ℕ) × HasFront IsVarint bytes x.0.time middle × HasFront (IsFixed w64) middle x.0.pattern x.1)
unfolding first_at
first_found bytes are =
    of_bind_as _ (varint_at (start bytes)) _ (λ time e. let t = varint_found (start bytes) _ _ are e in
    of_bind_as _ (number_at w64 time.1) _ (λ pattern e. of_ok (left time.1, t, number_found _ wide64 time.1 _ _ (IsBytes-after t.0 (left time.1) _ t.2 are) e)))

first_again : (bytes : List ℕ) (s : Sample) (middle after : List ℕ) → HasFront IsVarint bytes s.time middle → HasFront (IsFixed w64) middle s.pattern after → first_at bytes ≡ Ok (s, after)
unfolding first_at
first_again bytes s middle after time pattern =
    let q = further (length time.0) (start bytes) in
    let here = left_after _ _ _ time.2 in
    let read = varint_again (start bytes) time.0 s.time middle time.1 time.2 in
    let next = number_again w64 wide64 q pattern.0 s.pattern after pattern.1 (here ∙ pattern.2) in
    rw (read, next) (ap (λ (a : List ℕ). Ok (s, a)) (left_after pattern.0 after q (here ∙ pattern.2)))

samples_found : (count : ℕ) (bytes : List ℕ) → IsBytes bytes → OfValue (samples_at count bytes) (λ x. (length x.0 ≡ count) × AreSamples bytes x.0 x.1)
unfolding samples_at
samples_found zero bytes are = of_ok (refl, refl)
samples_found (suc count) bytes are =
    of_bind _ (first_found _ are) (λ first f.
    let after = IsBytes-after _ _ _ f.2.2 (IsBytes-after _ _ _ f.1.2 are) in
    of_bind _ (rest_found _ _ _ after) (λ rest r. of_ok (
      ap suc r.0,
      record { after_time = f.0; after = first.1; time_is = f.1; pattern_is = f.2; rest_are = r.1 },
    )))

samples_again : (bytes : List ℕ) (samples : List Sample) (after : List Bool) → AreSamples bytes samples after → samples_at (length samples) bytes ≡ Ok (samples, after)
unfolding samples_at
samples_again _ [] _ h = ap (λ a. Ok ([], a)) h
samples_again bytes (s ∷ ss) after h = rw (first_again bytes s h.after_time h.after h.time_is h.pattern_is, rest_again s h.after ss after h.rest_are) refl

-- ---- what is left

filling_found : (most : ℕ) (bits : List Bool) → is_filling most bits ≡ true → (k : ℕ) × (bits ≡ replicate k false) × (k ≤ most)
filling_found most bits e =
    let both = and_parts (nat_le (length bits) most) (number_of bits == 0) e in
    let none = eqb-true (number_of bits) 0 both.1 in
    (length bits, sym (bits_of-number_of _) ∙ ap (bits_of (length bits)) none ∙ bits_of-zero _, leb-true (length bits) most both.0)

filling_again : (most k : ℕ) → k ≤ most → is_filling most (replicate k false) ≡ true
filling_again most k le = rw (length-replicate, le-leb k most le, number_of-zeros) refl

-- ---- the whole

count_found : (bytes : List ℕ) → IsBytes bytes → OfValue (count_at bytes) (λ x. HasFront (IsFixed w16) bytes x.0 x.1)
unfolding count_at
count_found _ are = of_bind_as _ _ _ (λ n e. of_ok (number_found _ wide16 _ _ _ are e))

count_again : (bytes : List ℕ) (n : ℕ) (after : List ℕ) → HasFront (IsFixed w16) bytes n after → count_at bytes ≡ Ok (n, after)
unfolding count_at
count_again bytes n after h =
    let read = number_again _ wide16 (start bytes) h.0 n after h.1 h.2 in
    rw read (ap (λ (a : List ℕ). Ok (n, a)) (left_after _ _ _ h.2))

data_found : (most : ℕ) (bytes : List ℕ) → IsBytes bytes → OfValue (data_at most bytes) (λ ss. IsText most bytes ss)
unfolding data_at
data_found most bytes are =
    of_bind _ (count_found bytes are) (λ count c. of_bind _ (samples_found _ _ (IsBytes-after _ _ _ c.2 are)) (λ all s. of_unless (is_filling most all.1) _ _ (λ filling.
    let left = filling_found _ _ filling in
    of_ok (record {
      after = count.1;
      left = left.0;
      counted = subst (λ n. HasFront (IsFixed w16) bytes n count.1) (sym s.0) c;
      samples_are = subst (AreSamples count.1 all.0) left.1 s.1;
      filling = left.2;
    }))))

pub data_again : (most : ℕ) (bytes : List ℕ) (samples : List Sample) → IsText most bytes samples → data_at most bytes ≡ Ok samples
unfolding data_at
data_again most bytes samples h =
    rw (count_again bytes (length samples) h.after h.counted, samples_again h.after samples (replicate h.left false) h.samples_are, filling_again most h.left h.filling) refl

pub text_few : (most : ℕ) (bytes : List ℕ) (samples : List Sample) → IsText most bytes samples → length samples ≤ 8 * length bytes
text_few _ _ [] h = omega arith
text_few _ _ (s ∷ []) h = omega (arith, ap length h.counted.2, length-append h.counted.0 h.after, ap length h.counted.1.digits)
text_few _ _ (s ∷ t ∷ ss) h =
    let from = h.samples_are in
    let second = from.rest_are in
    let value = value_some _ _ _ _ _ second.shows in
    let others = others_few _ _ _ second.others_are in
    let bits = ap length second.bits_are in
    let three : length second.value + (length second.rest + length (replicate h.left false)) ≡ 8 * length second.after =
    omega (arith, bits, length-bits_in second.after, length-append second.value (second.rest ++ replicate h.left false), length-append second.rest (replicate h.left false)) in
    let tail : length second.after ≤ length from.after = omega (arith, ap length second.gap_is.2, length-append second.gap_is.0 second.after) in
    let middle : length from.after ≤ length from.after_time = omega (arith, ap length from.pattern_is.2, length-append from.pattern_is.0 from.after) in
    let start : length from.after_time ≤ length h.after = omega (arith, ap length from.time_is.2, length-append from.time_is.0 from.after_time) in
    omega (arith, value, others, three, ap length h.counted.2, length-append h.counted.0 h.after, ap length h.counted.1.digits)

-- ---- what the calls say

pub only : (most : ℕ) (bytes : List ℕ) (r : Result (List Sample) XorRefusal) (samples : List Sample) → Gives NoMemory (λ ss. ss) r (data_at most bytes) → IsText most bytes samples → (r ≡ Ok samples) ⊎ (r ≡ Err NoMemory)
only _ _ (Ok ss) _ h is = inl (ap (λ x. Ok x) (ok_is {E = XorRefusal} _ _ (sym h ∙ data_again _ _ _ is)))
only _ _ (Err d) _ (inl e) is = inr (ap (λ x. Err x) e)
only _ _ (Err d) _ (inr e) is = let no = sym e ∙ data_again _ _ _ is in absurd cc

pub found : (most : ℕ) (bytes : List ℕ) (r : Result (List Sample) XorRefusal) → IsBytes bytes → Gives NoMemory (λ ss. ss) r (data_at most bytes) → IfOk r (λ ss. IsText most bytes ss)
found _ _ r are h = of_gives _ _ r (data_found _ _ are) h

pub few : (most : ℕ) (bytes : List ℕ) (r : Result (List Sample) XorRefusal) → IsBytes bytes → Gives NoMemory (λ ss. ss) r (data_at most bytes) → IfOk r (λ ss. length ss ≤ 8 * length bytes)
few most bytes r are h = IfOk-weaker r _ _ (λ ss is. text_few most bytes ss is) (found _ _ r are h)
