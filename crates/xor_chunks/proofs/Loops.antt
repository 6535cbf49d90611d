-- Samples read one after another.
use Rattle.std.proofs.Common.{◌≡◌, ℕ, zero, suc, ◌+◌, ◌-◌, ◌^◌, ◌==◌, min, length, ℤ, pos, ◌<◌, ◌≤◌, Bool, List, [], ◌∷◌, ◌++◌, Result, Ok, Err, refl, sym, ap, ◌∙◌, append_assoc, arith}
use Rattle.std.proofs.lemmas.List.{append-nil, nil_from_length, length-append}
use Rattle.std.proofs.lemmas.Bool.{le-leb}
use Rattle.std.proofs.Math.Nat.{mod-eq_of_lt}
use Rattle.wire_bytes.specs.Bits.{bits_of, bits_in, number_of}
use Rattle.wire_bytes.proofs.BitLists.{length-bits_of, number_of-bits_of}
use Rattle.label_sets.specs.declared.sample.Sample.{Sample}
use Rattle.base.specs.Reading.{◌>>=◌}
use Rattle.base.specs.Members.{members_at}
use Rattle.base.proofs.Counted.{members_more, members_stop}
use Rattle.xor_chunks.specs.State.{State}
use Rattle.xor_chunks.specs.declared.refusal.XorRefusal.{XorRefusal}
use Rattle.xor_chunks.specs.Samples.{sample_of}
use Rattle.xor_chunks.specs.Steps.{next_at, follow_at}
use Rattle.xor_chunks.specs.Data.{gap_at, sample_at, others_at, rest_at, is_filling, with_front}

-- what a loop has read so far: so many samples, behind those before it
pub record HasRead (front samples : List Sample) (count : ℕ) (second : State) (bits : List Bool) (last : State) (rest : List Bool) : Type 0 where
  pub found : List Sample
  pub so_far : samples ≡ front ++ found
  pub read : members_at sample_at count (second, bits) ≡ Ok (found, (last, rest))

pub begins : (front : List Sample) (second : State) (bits : List Bool) → HasRead front front 0 second bits second bits
unfolding members_at
begins front _ _ = record { found = []; so_far = sym (append-nil front); read = refl }

pub goes_on : (front samples more : List Sample) (count : ℕ) (second last after : State) (bits rest left : List Bool) → HasRead front samples count second bits last rest → next_at last rest ≡ Ok (after, left) → more ≡ samples ++ sample_of after ∷ []
    → HasRead front more (count + 1) second bits after left
unfolding sample_at
goes_on front samples more count second last after bits rest left h next pushed =
    let one : sample_at (last, rest) ≡ Ok (sample_of after, (after, left)) = rw next refl in
    record {
      found = h.found ++ sample_of after ∷ [];
      so_far = pushed ∙ ap (λ (a : List Sample). a ++ sample_of after ∷ []) h.so_far ∙ append_assoc front h.found (sample_of after ∷ []);
      read = members_more sample_at count (second, bits) (last, rest) (after, left) h.found (sample_of after) h.read one;
    }

pub stops : (front samples : List Sample) (i count : ℕ) (second last : State) (bits rest : List Bool) (e : XorRefusal) → HasRead front samples i second bits last rest → i < count → next_at last rest ≡ Err e → with_front front (others_at count second bits) ≡ Err e
unfolding sample_at others_at
stops _ _ i count second last bits rest e h more refused =
    let one : sample_at (last, rest) ≡ Err e = rw refused refl in
    rw (members_stop sample_at i count (second, bits) (last, rest) h.found e more h.read one) refl

pub ends : (front samples : List Sample) (i count : ℕ) (second last : State) (bits rest : List Bool) → HasRead front samples i second bits last rest → i ≡ count → with_front front (others_at count second bits) ≡ Ok (samples, rest)
unfolding others_at
ends _ _ i _ _ _ _ _ h all = rw (← all, h.read, h.so_far) refl

pub regroup : (front : List Sample) (s : Sample) (read : Result (List Sample × List Bool) XorRefusal) → with_front (front ++ s ∷ []) read ≡ with_front front (read >>= λ x. Ok (s ∷ x.0, x.1))
regroup front s (Ok x) = ap (λ ss. Ok (ss, x.1)) (append_assoc front (s ∷ []) x.0)
regroup _ s (Err e) = refl

-- the second sample, and those after it
pub rest_steps : (front more : List Sample) (count gap : ℕ) (change : ℤ) (first second : State) (bytes after : List ℕ) (reader bits : List Bool) → (count ≡ 0 → ⊥) → gap_at bytes ≡ Ok (gap, after) → reader ≡ bits_in after → change ≡ pos gap → follow_at first change reader ≡ Ok (second, bits)
    → more ≡ front ++ sample_of second ∷ [] → with_front more (others_at (count - 1) second bits) ≡ with_front front (rest_at count first bytes)
unfolding rest_at
rest_steps _ _ zero _ _ _ _ _ _ _ _ some e r z f pushed = absurd (some refl)
rest_steps _ _ (suc count) gap _ first _ _ _ reader _ some e r z f pushed =
    let same : suc count - 1 ≡ count = omega arith in
    let follows = ap (follow_at first (pos gap)) (sym r) ∙ ap (λ w. follow_at first w reader) (sym z) ∙ f in
    rw (same, pushed, e, follows) (regroup _ _ _)

-- ---- what is left

pub all_left : (most left number : ℕ) (bits after : List Bool) → left ≡ min (length bits) (2 ^ 64 - 1) → left ≤ most → most ≤ 64 → bits ≡ bits_of left number ++ after → number < 2 ^ left → (number == 0) ≡ is_filling most bits
all_left most left number bits after left-is le few parts lt =
    let len : length bits ≡ left = omega arith in
    let none : after ≡ [] = nil_from_length _ (omega (arith, ap length parts, length-append (bits_of left number) after, length-bits_of left number)) in
    let value : number_of bits ≡ number = ap number_of (parts ∙ ap (λ a. bits_of left number ++ a) none ∙ append-nil (bits_of left number)) ∙ number_of-bits_of _ _ ∙ mod-eq_of_lt lt in
    rw (le-leb (length bits) most (omega arith), value) refl
