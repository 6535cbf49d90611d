-- What is told of samples that are passed over is told of those that would be read.
use Rattle.std.proofs.Common.{◌≡◌, ℕ, zero, suc, ◌+◌, ◌-◌, ◌<◌, Bool, true, false, List, [], ◌∷◌, ◌++◌, length, Option, None, Some, Result, Ok, Err, ℤ, pos, refl, sym, ap, ◌∙◌, arith}
use Rattle.std.specs.Prelude.{IfOk}
use Rattle.base.specs.Reading.{◌>>=◌, Answers}
use Rattle.base.specs.Grammar.{IsBytes}
use Rattle.base.proofs.Binds.{bind_ok, ok_is}
use Rattle.base.proofs.Bound.{OfValue, of_ok, of_bind}
use Rattle.label_sets.specs.declared.sample.Sample.{Sample}
use Rattle.xor_chunks.specs.State.{State}
use Rattle.xor_chunks.specs.declared.refusal.XorRefusal.{XorRefusal}
use Rattle.xor_chunks.specs.declared.refusal.XorRefusal.TheVariants.{Trailing}
use Rattle.xor_chunks.specs.declared.spanning.SampleSpan.{SampleSpan}
use Rattle.wire_bytes.specs.Bits.{bits_in}
use Rattle.xor_chunks.specs.Samples.{of_first, sample_of}
use Rattle.xor_chunks.specs.Steps.{next_at, follow_at}
use Rattle.xor_chunks.specs.Data.{count_at, first_at, gap_at, others_at, rest_at, samples_at, data_at, is_filling, with_front}
use Rattle.xor_chunks.specs.Spans.{end_of, span_of, with_end, with_span, span_at}
use Rattle.xor_chunks.specs.Grammar.{IsText}
use Rattle.xor_chunks.proofs.Loops.{HasRead, begins, goes_on, stops, ends, rest_steps}
use Rattle.xor_chunks.proofs.Appending.{first_steps}
use Rattle.xor_chunks.proofs.SamplesRead.{others_found}
use Rattle.xor_chunks.proofs.TextsRead.{data_again, found}

-- ---- the end of samples

end_of-push : (time : ℤ) (samples : List Sample) (s : Sample) → end_of time (samples ++ s ∷ []) ≡ s.time
end_of-push _ [] s = refl
end_of-push time (x ∷ xs) s = end_of-push x.time xs s

end_alone : (time : ℤ) (read : Result (List Sample × List Bool) XorRefusal) → with_end time (with_front [] read) ≡ with_end time read
end_alone _ (Ok x) = refl
end_alone _ (Err e) = refl

end_behind : (time : ℤ) (s : Sample) (read : Result (List Sample × List Bool) XorRefusal) → with_end time (with_front (s ∷ []) read) ≡ with_end s.time read
end_behind _ s (Ok x) = refl
end_behind _ s (Err e) = refl

end_refused : (time : ℤ) (read : Result (List Sample × List Bool) XorRefusal) (e : XorRefusal) → with_end time read ≡ Err e → read ≡ Err e
end_refused _ (Ok x) e h = absurd cc
end_refused _ (Err d) e h = cc

-- ---- samples after the second

-- what a loop has passed over so far
pub record HasPassed (count : ℕ) (second : State) (bits : List Bool) (last : State) (rest : List Bool) : Type 0 where
  pub found : List Sample
  pub read : HasRead [] found count second bits last rest
  pub end : end_of second.time found ≡ last.time

pub passes_none : (second : State) (bits : List Bool) → HasPassed 0 second bits second bits
passes_none _ _ = record { found = []; read = begins _ _ _; end = refl }

pub passes_one : (count : ℕ) (second last after : State) (bits rest left : List Bool) → HasPassed count second bits last rest → next_at last rest ≡ Ok (after, left) → HasPassed (count + 1) second bits after left
passes_one _ second _ after _ _ _ h next = record {
  found = h.found ++ sample_of after ∷ [];
  read = goes_on _ _ _ _ _ _ _ _ _ _ h.read next refl;
  end = end_of-push second.time h.found (sample_of after);
}

pub passing_stops : (i count : ℕ) (second last : State) (bits rest : List Bool) (e : XorRefusal) → HasPassed i second bits last rest → i < count → next_at last rest ≡ Err e → with_end second.time (others_at count second bits) ≡ Err e
passing_stops i _ second _ _ _ e h more refused =
    sym (end_alone _ _) ∙ ap (with_end second.time) (stops _ _ i _ _ _ _ _ e h.read more refused)

pub passes_all : (i count : ℕ) (second last : State) (bits rest : List Bool) → HasPassed i second bits last rest → i ≡ count → with_end second.time (others_at count second bits) ≡ Ok (last.time, rest)
passes_all i _ second _ _ rest h all =
    sym (end_alone _ _) ∙ ap (with_end second.time) (ends _ _ i _ _ _ _ _ h.read all) ∙ ap (λ t. Ok (t, rest)) h.end

-- ---- the second sample, and those after it

pub rest_ends : (count gap : ℕ) (change : ℤ) (first second : State) (bytes after : List ℕ) (reader bits : List Bool) → (count ≡ 0 → ⊥) → gap_at bytes ≡ Ok (gap, after) → reader ≡ bits_in after → change ≡ pos gap → follow_at first change reader ≡ Ok (second, bits)
    → with_end second.time (others_at (count - 1) second bits) ≡ with_end first.time (rest_at count first bytes)
rest_ends _ _ _ first second _ _ _ _ some e r z f =
    sym (end_behind first.time (sample_of second) _)
    ∙ ap (with_end first.time) (rest_steps [] _ _ _ _ _ _ _ _ _ _ some e r z f refl)
    ∙ end_alone _ _

-- ---- all samples

any_value : {A E : Type 0} (r : Result A E) → OfValue r (λ _. Unit {0})
any_value r = record { holds = λ x e. tt }

rest_many : (count : ℕ) (first : State) (bytes : List ℕ) → OfValue (rest_at count first bytes) (λ x. length x.0 ≡ count)
unfolding rest_at others_at
rest_many zero _ _ = of_ok refl
rest_many (suc count) first bytes =
    of_bind _ (any_value (gap_at bytes)) (λ gap g. of_bind _ (any_value (follow_at first (pos gap.0) (bits_in gap.1))) (λ second s.
    of_bind _ (of_bind _ (others_found count second.0 second.1) (λ x h. of_ok {x = (x.0, x.1.1)} h.0)) (λ others o. of_ok (ap suc o))))

span_alone : (read : Result (List Sample × List Bool) XorRefusal) → with_span (with_front [] read) ≡ with_span read
span_alone (Ok x) = refl
span_alone (Err e) = refl

span_behind : (count : ℕ) (s : Sample) (last : ℤ) (left : List Bool) (read : Result (List Sample × List Bool) XorRefusal) → OfValue read (λ x. suc (length x.0) ≡ count) → with_end s.time read ≡ Ok (last, left)
    → with_span (with_front (s ∷ []) read) ≡ Ok (Some (record { count = count; first = s.time; last = last }), left)
span_behind _ s _ _ (Ok x) many e =
    let same = ok_is {E = XorRefusal} _ _ e in
    let end = ap (λ p. p.0) same in
    let after = ap (λ p. p.1) same in
    rw (many.holds x refl, end, after) refl
span_behind _ s _ _ (Err d) many e = absurd cc

pub no_span : (count : ℕ) (bytes : List ℕ) (bits : List Bool) → count ≡ 0 → bits ≡ bits_in bytes → with_span (samples_at count bytes) ≡ Ok (None, bits)
unfolding samples_at
no_span zero _ _ none are = rw are refl
no_span (suc count) _ _ none are = absurd cc

pub span_no_first : (count : ℕ) (bytes : List ℕ) (e : XorRefusal) → (count ≡ 0 → ⊥) → first_at bytes ≡ Err e → with_span (samples_at count bytes) ≡ Err e
unfolding samples_at
span_no_first zero _ e some h = absurd (some refl)
span_no_first (suc count) _ e some h = rw h refl

module _ (count : ℕ) (first : Sample) (begin : State) (bytes after : List ℕ) (some : count ≡ 0 → ⊥) (read : first_at bytes ≡ Ok (first, after)) (begin_is : begin ≡ of_first first) where
  whole : with_front (first ∷ []) (rest_at (count - 1) begin after) ≡ with_front [] (samples_at count bytes)
  whole = ap (λ s. with_front (first ∷ []) (rest_at (count - 1) s after)) begin_is ∙ first_steps [] _ _ _ _ _ some read refl

  many : OfValue (rest_at (count - 1) begin after) (λ x. suc (length x.0) ≡ count)
  many = record { holds = λ x e. let n = (rest_many _ _ _).holds x e in omega arith }

  pub span_stopped : (e : XorRefusal) → with_end begin.time (rest_at (count - 1) begin after) ≡ Err e → with_span (samples_at count bytes) ≡ Err e
  span_stopped e h =
      let refused : rest_at (count - 1) begin after ≡ Err e = end_refused _ _ e h in
      sym (span_alone _) ∙ ap with_span (sym whole) ∙ ap (λ r. with_span (with_front (first ∷ []) r)) refused

  pub span_reads : (last : ℤ) (left : List Bool) → with_end begin.time (rest_at (count - 1) begin after) ≡ Ok (last, left) → with_span (samples_at count bytes) ≡ Ok (Some (record { count = count; first = first.time; last = last }), left)
  span_reads _ _ h =
      let from = ap (λ s. with_end s.time (rest_at (count - 1) begin after)) (sym begin_is) ∙ h in
      sym (span_alone _) ∙ ap with_span (sym whole) ∙ span_behind _ _ _ _ _ many from

-- ---- all the bytes

span_parts : (span : Option SampleSpan) (left : List Bool) (read : Result (List Sample × List Bool) XorRefusal) → with_span read ≡ Ok (span, left) → (samples : List Sample) × (read ≡ Ok (samples, left)) × (span_of samples ≡ span)
span_parts _ _ (Ok x) e =
    let same = ok_is {E = XorRefusal} _ _ e in
    (x.0, ap (λ b. Ok (x.0, b)) (ap (λ p. p.1) same), ap (λ p. p.0) same)
span_parts _ _ (Err d) e = absurd cc

span_refused : (e : XorRefusal) (read : Result (List Sample × List Bool) XorRefusal) → with_span read ≡ Err e → read ≡ Err e
span_refused e (Ok x) h = absurd cc
span_refused e (Err d) h = cc

module _ (most : ℕ) (bytes : List ℕ) where
  pub span_no_count : (e : XorRefusal) → count_at bytes ≡ Err e → span_at most bytes ≡ Err e
  unfolding data_at
  span_no_count e h = rw h refl

  module _ (count : ℕ) (after : List ℕ) (counted : count_at bytes ≡ Ok (count, after)) where
    pub span_stops : (e : XorRefusal) → with_span (samples_at count after) ≡ Err e → span_at most bytes ≡ Err e
    unfolding data_at
    span_stops e h = let read = span_refused e _ h in rw (counted, read) refl

    pub span_left_over : (span : Option SampleSpan) (left : List Bool) (filling : Bool) → with_span (samples_at count after) ≡ Ok (span, left) → filling ≡ is_filling most left → filling ≡ false → span_at most bytes ≡ Err Trailing
    unfolding data_at
    span_left_over span left filling h is no' =
        let read = span_parts _ _ _ h in
        let none = sym is ∙ no' in
        rw (counted, read.1, none) refl

    pub span_whole : (span : Option SampleSpan) (left : List Bool) (filling : Bool) → with_span (samples_at count after) ≡ Ok (span, left) → filling ≡ is_filling most left → filling ≡ true → span_at most bytes ≡ Ok span
    unfolding data_at
    span_whole span left filling h is yes' =
        let read = span_parts _ _ _ h in
        let full = sym is ∙ yes' in
        rw (counted, read.1, full) (ap (λ s. Ok s) read.2)

-- ---- what the call says

module _ (bytes : List ℕ) where
  pub span_found : (r : Result (Option SampleSpan) XorRefusal) → IsBytes bytes → Answers (λ span. span) r (span_at 8 bytes) → IfOk r (λ span. (samples : List Sample) × IsText 8 bytes samples × (span ≡ span_of samples))
  span_found (Ok span) are e =
      let p = bind_ok (data_at 8 bytes) _ _ e in
      (p.0, found 8 _ (Ok p.0) are p.1, sym (ok_is {E = XorRefusal} _ _ p.2))
  span_found (Err d) are e = tt

  pub span_only : (r : Result (Option SampleSpan) XorRefusal) (samples : List Sample) → Answers (λ span. span) r (span_at 8 bytes) → IsText 8 bytes samples → r ≡ Ok (span_of samples)
  span_only (Ok span) samples e is = let read = data_again 8 _ _ is in sym e ∙ ap (λ x. x >>= λ ss. Ok (span_of ss)) read
  span_only (Err d) _ e is =
      let read = ap (λ x. x >>= λ ss. Ok (span_of ss)) (data_again 8 _ _ is) in
      let both = sym e ∙ read in absurd cc
