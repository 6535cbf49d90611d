-- Where reading stops, no selector's text goes on; where it comes to its end, the text is a selector's.
use Rattle.std.proofs.Common.{◌≡◌, ◌⊎◌, inl, inr, ℕ, suc, ◌+◌, ◌<◌, List, [], ◌∷◌, ◌++◌, length, take, map, Ok, Err, refl, sym, ap, ◌∙◌, subst, arith, Bool, true, false, cond, eqb, ◌||◌, append_assoc, append-nil}
use Rattle.std.specs.Result.{is_err}
use Rattle.std.proofs.lemmas.Bool.{true≢false}
use Rattle.std.proofs.lemmas.List.{length-append, take_at}
use Rattle.base.specs.Reading.{◌>>=◌}
use Rattle.base.proofs.Binds.{bind_ok, bind_err}
use Rattle.matchers.specs.declared.draft.Draft.{Draft}
use Rattle.matchers.specs.declared.selector_refusal.SelectorRefusal.{SelectorRefusal}
use Rattle.matchers.specs.declared.selector_refusal.SelectorRefusal.TheVariants.{BadSelector}
use Rattle.matchers.specs.declared.stage.Stage.{Stage}
use Rattle.matchers.specs.declared.stage.Stage.TheVariants.{Start, Metric, Comma, Name, Exclamation, Equals, Sign, Value, Backslash, Quote, End}
use Rattle.label_sets.specs.Notation.{is_name_start, is_name_byte}
use Rattle.matchers.specs.Selectors.{is_metric_start, is_metric_byte, is_metric_name, metric_matcher}
use Rattle.matchers.specs.SelectorText.{metric_part, IsSelectorText}
use Rattle.matchers.specs.SelectorRefusals.{BeginsASelector, StopsAt}
use Rattle.matchers.specs.Stages.{Next, matcher_of, selector_of, nothing_read, after_start, after_metric, after_comma, after_name, after_exclamation, after_equals, after_sign, in_value, after_backslash, after_quote, step_from, step, ended_from, ended_draft, read_from, read_whole}
use Rattle.matchers.proofs.StageTexts.{IsClosed, Reached}
use Rattle.matchers.proofs.StageSteps.{step_reaches}
use Rattle.matchers.proofs.Completions.{can_be_completed, closed_text}
use Rattle.matchers.proofs.TextsRead.{text_is_read}

-- ---- the end of a text

-- behind a metric name or the closing brace
abbrev pub IsWhole : Draft → List ℕ → Type 0
IsWhole d text = Reached Metric d text ⊎ IsClosed d.metric d.listed text

same_whole : (d next : Draft) (text : List ℕ) → IsWhole d text → ◌≡◌ {A = Next} (Ok d) (Ok next) → IsWhole next text
same_whole d next text whole e = let same : d ≡ next = cc in subst (λ (n : Draft). IsWhole n text) same whole

ended_whole : (stage : Stage) (d next : Draft) (place : ℕ) (text : List ℕ) → Reached stage d text → ended_from stage d place ≡ Ok next → IsWhole next text
ended_whole Metric d next place text r e = same_whole d next text (inl r) e
ended_whole End d next place text r e = same_whole d next text (inr r) e
ended_whole Start d next place text r e = absurd cc
ended_whole Comma d next place text r e = absurd cc
ended_whole Name d next place text r e = absurd cc
ended_whole Exclamation d next place text r e = absurd cc
ended_whole Equals d next place text r e = absurd cc
ended_whole Sign d next place text r e = absurd cc
ended_whole Value d next place text r e = absurd cc
ended_whole Backslash d next place text r e = absurd cc
ended_whole Quote d next place text r e = absurd cc

one_longer : (front : List ℕ) (byte : ℕ) → length front + 1 ≡ length (front ++ byte ∷ [])
one_longer front byte = omega (arith, length-append front (byte ∷ []))

whole_from : (bytes front : List ℕ) (d next : Draft) → Reached d.stage d front → read_from d (length front) bytes ≡ Ok next → IsWhole next (front ++ bytes)
unfolding read_from ended_draft
whole_from [] front d next r e = subst (IsWhole next) (sym (append-nil front)) (ended_whole d.stage d next (length front) front r e)
whole_from (byte ∷ bytes) front d next r e =
    let x = bind_ok (step d (length front) byte) (λ one. read_from one (length front + 1) bytes) next e in
    subst (IsWhole next) (append_assoc front (byte ∷ []) bytes)
    (whole_from bytes (front ++ byte ∷ []) x.0 next (step_reaches d x.0 front (length front) byte refl r x.1) (ap (λ n. read_from x.0 n bytes) (sym (one_longer front byte)) ∙ x.2))

pub read_is_whole : (text : List ℕ) (d : Draft) → read_whole text ≡ Ok d → IsWhole d text
read_is_whole text d e = whole_from text [] nothing_read d (refl, refl, refl, refl) e

metric_alone : (metric : List ℕ) → is_metric_name metric ≡ true → metric_part metric ≡ metric_matcher metric ∷ []
unfolding is_metric_name
metric_alone [] is = absurd cc
metric_alone (byte ∷ bytes) is = refl

pub whole_is_text : (text : List ℕ) (d : Draft) → IsWhole d text → IsSelectorText text (selector_of d)
whole_is_text text d (inl r) =
    inl (ap is_metric_name r.0 ∙ r.1, (λ i. metric_part (sym r.0 i) ++ map matcher_of (r.2 i)) ∙ append-nil (metric_part text) ∙ metric_alone text (ap is_metric_name r.0 ∙ r.1))
whole_is_text text d (inr closed) = inr (closed_text d.metric d.listed text closed)

-- ---- the refused byte

abbrev Stops : ℕ → Next → Type 0
Stops place r = (e : SelectorRefusal) → r ≡ Err e → e ≡ BadSelector place

stops_here : (place : ℕ) → Stops place (Err (BadSelector place))
stops_here place e h = cc

never_stops : (place : ℕ) (d : Draft) → Stops place (Ok d)
never_stops place d e h = absurd cc

either : (place : ℕ) (b : Bool) (r s : Next) → Stops place r → Stops place s → Stops place (cond b r s)
either place true r s one other = one
either place false r s one other = other

step_stops : (stage : Stage) (d : Draft) (place byte : ℕ) → Stops place (step_from stage d place byte)
unfolding after_start after_metric after_comma after_name after_exclamation after_equals after_sign in_value after_backslash after_quote
step_stops Start d place byte = either place (eqb byte 123) _ _ (never_stops place _) (either place (is_metric_start byte) _ _ (never_stops place _) (stops_here place))
step_stops Metric d place byte = either place (eqb byte 123) _ _ (never_stops place _) (either place (is_metric_byte byte) _ _ (never_stops place _) (stops_here place))
step_stops Comma d place byte = either place (eqb byte 125) _ _ (never_stops place _) (either place (is_name_start byte) _ _ (never_stops place _) (stops_here place))
step_stops Name d place byte = either place (eqb byte 61) _ _ (never_stops place _) (either place (eqb byte 33) _ _ (never_stops place _) (either place (is_name_byte byte) _ _ (never_stops place _) (stops_here place)))
step_stops Exclamation d place byte = either place (eqb byte 61) _ _ (never_stops place _) (either place (eqb byte 126) _ _ (never_stops place _) (stops_here place))
step_stops Equals d place byte = either place (eqb byte 34) _ _ (never_stops place _) (either place (eqb byte 126) _ _ (never_stops place _) (stops_here place))
step_stops Sign d place byte = either place (eqb byte 34) _ _ (never_stops place _) (stops_here place)
step_stops Value d place byte = either place (eqb byte 34) _ _ (never_stops place _) (either place (eqb byte 92) _ _ (never_stops place _) (either place (eqb byte 10) _ _ (stops_here place) (never_stops place _)))
step_stops Backslash d place byte = either place (eqb byte 110) _ _ (never_stops place _) (either place (eqb byte 92 || eqb byte 34) _ _ (never_stops place _) (stops_here place))
step_stops Quote d place byte = either place (eqb byte 44) _ _ (never_stops place _) (either place (eqb byte 125) _ _ (never_stops place _) (stops_here place))
step_stops End d place byte = stops_here place

ended_stops : (stage : Stage) (d : Draft) (place : ℕ) → Stops place (ended_from stage d place)
ended_stops Metric d place = never_stops place d
ended_stops End d place = never_stops place d
ended_stops Start d place = stops_here place
ended_stops Comma d place = stops_here place
ended_stops Name d place = stops_here place
ended_stops Exclamation d place = stops_here place
ended_stops Equals d place = stops_here place
ended_stops Sign d place = stops_here place
ended_stops Value d place = stops_here place
ended_stops Backslash d place = stops_here place
ended_stops Quote d place = stops_here place

-- Behind the front, some bytes are passed, and the next one is refused whatever follows it.
record Stopped (d : Draft) (front bytes : List ℕ) (e : SelectorRefusal) : Type 0 where
  pub passed : List ℕ
  pub left : List ℕ
  pub split : bytes ≡ passed ++ left
  pub place : e ≡ BadSelector (length front + length passed)
  pub begins : BeginsASelector (front ++ passed)
  pub refused : (byte : ℕ) (more other : List ℕ) → left ≡ byte ∷ more → is_err (read_from d (length front) (passed ++ byte ∷ other)) ≡ true

refused_step : (r : Next) (f : Draft → Next) (e : SelectorRefusal) → r ≡ Err e → is_err (r >>= f) ≡ true
refused_step (Ok x) f e h = absurd cc
refused_step (Err d) f e h = refl

passed_step : (r : Next) (f : Draft → Next) (x : Draft) → r ≡ Ok x → is_err (f x) ≡ true → is_err (r >>= f) ≡ true
passed_step r f x h is = ap (λ (s : Next). is_err (s >>= f)) h ∙ is

stopped_from : (bytes front : List ℕ) (d : Draft) (e : SelectorRefusal) → Reached d.stage d front → read_from d (length front) bytes ≡ Err e → Stopped d front bytes e
unfolding read_from ended_draft step
stopped_from [] front d e r h = record {
  passed = [];
  left = [];
  split = refl;
  place = ended_stops d.stage d (length front) e h ∙ ap BadSelector (omega arith);
  begins = subst BeginsASelector (sym (append-nil front)) (can_be_completed d.stage d front r);
  refused = λ byte more other is. absurd (cc is);
}
stopped_from (byte ∷ bytes) front d e r h = elim (bind_err (step d (length front) byte) (λ one. read_from one (length front + 1) bytes) e h) [
  | inl here ↦ record {
    passed = [];
    left = byte ∷ bytes;
    split = refl;
    place = step_stops d.stage d (length front) byte e here ∙ ap BadSelector (omega arith);
    begins = subst BeginsASelector (sym (append-nil front)) (can_be_completed d.stage d front r);
    refused = λ b more other is. let same : byte ≡ b = cc (is) in refused_step (step d (length front) b) (λ one. read_from one (length front + 1) other) e (ap (step d (length front)) (sym same) ∙ here);
  }
  | inr later ↦
      let v = stopped_from bytes (front ++ byte ∷ []) later.0 e (step_reaches d later.0 front (length front) byte refl r later.1) (ap (λ n. read_from later.0 n bytes) (sym (one_longer front byte)) ∙ later.2) in
      record {
        passed = byte ∷ v.passed;
        left = v.left;
        split = ap (λ xs. byte ∷ xs) v.split;
        place = v.place ∙ ap BadSelector (omega (arith, one_longer front byte));
        begins = subst BeginsASelector (append_assoc front (byte ∷ []) v.passed) v.begins;
        refused = λ b more other is.
            passed_step (step d (length front) byte) (λ one. read_from one (length front + 1) (v.passed ++ b ∷ other)) later.0 later.1
            (ap (λ n. is_err (read_from later.0 n (v.passed ++ b ∷ other))) (one_longer front byte) ∙ v.refused b more other is);
      }
]

not_refused : (r : Next) (d : Draft) → r ≡ Ok d → is_err r ≡ true → ⊥
not_refused r d e h = true≢false (sym h ∙ ap is_err e)

not_both : (r : Next) (d : Draft) (e : SelectorRefusal) → r ≡ Ok d → r ≡ Err e → ⊥
not_both r d e h k = absurd cc

-- the front up to a place, and with the byte there
front_and : (passed left : List ℕ) (byte : ℕ) (more : List ℕ) → left ≡ byte ∷ more → take (suc (length passed)) (passed ++ left) ≡ passed ++ byte ∷ []
front_and passed left byte more is =
    ap (λ xs. take (suc (length passed)) (passed ++ xs)) is ∙ ap (take (suc (length passed))) (sym (append_assoc passed (byte ∷ []) more))
    ∙ take_at (passed ++ byte ∷ []) more (suc (length passed)) (omega (arith, length-append passed (byte ∷ [])))

more_left : (left : List ℕ) → 0 < length left → (byte : ℕ) × (more : List ℕ) × (left ≡ byte ∷ more)
more_left [] some = absurd (omega arith)
more_left (byte ∷ more) some = (byte, more, refl)

pub refused_stops : (text : List ℕ) (e : SelectorRefusal) → read_whole text ≡ Err e → (place : ℕ) × (e ≡ BadSelector place) × StopsAt text place
refused_stops text e h =
    let v = stopped_from text [] nothing_read e (refl, refl, refl, refl) h in
    let place : ℕ = length v.passed in (
      place,
      v.place ∙ ap BadSelector (omega arith),
      record {
        within = omega (arith, ap length v.split, length-append v.passed v.left);
        so_far = subst BeginsASelector (sym (ap (take place) v.split ∙ take_at v.passed v.left place refl)) v.begins;
        no_further = λ before begins.
            let left = more_left v.left (omega (arith, before, ap length v.split, length-append v.passed v.left)) in
            let front : take (suc place) text ≡ v.passed ++ left.0 ∷ [] = ap (take (suc place)) v.split ∙ front_and v.passed v.left left.0 left.1 left.2 in
            let read = text_is_read (take (suc place) text ++ begins.after) begins.selector begins.is_text in
            not_refused (read_whole (v.passed ++ left.0 ∷ begins.after)) read.draft
            (ap read_whole (sym (append_assoc v.passed (left.0 ∷ []) begins.after) ∙ ap (λ t. t ++ begins.after) (sym front)) ∙ read.is_read)
            (v.refused left.0 left.1 begins.after left.2);
        no_selector = λ selector is. let read = text_is_read text selector is in not_both (read_whole text) read.draft e read.is_read h;
      },
    )
