-- A series' labels, read one after another.
use Rattle.std.proofs.Common.{◌≡◌, ℕ, ◌<◌, List, [], ◌∷◌, ◌++◌, length, Some, Result, Ok, Err, refl, sym, ap, ◌∙◌, append_assoc, ◌⊎◌, inl, inr}
use Rattle.std.specs.Prelude.{slice_get}
use Rattle.std.proofs.lemmas.Bool.{ltb-true}
use Rattle.std.specs.Prelude.{IsErrAnd}
use Rattle.base.proofs.Bools.{Less-from_is_lt}
use Rattle.base.specs.Reading.{◌>>=◌, Answers, Gives}
use Rattle.base.proofs.Binds.{bind_ok, unless_ok, ok_is, ok_or_ok}
use Rattle.label_sets.specs.declared.label.Label.{Label}
use Rattle.label_sets.specs.Labels.{compare_texts, ComesBefore}
use Rattle.index_parts.specs.declared.refusal.PartRefusal.{PartRefusal}
use Rattle.index_parts.specs.declared.refusal.PartRefusal.TheVariants.{Unordered}
use Rattle.index_parts.specs.declared.raw_series.RawLabel.{RawLabel}
use Rattle.index_v2.specs.SeriesLabels.{label_of, labels_of}

-- what a label that is read is
pub record IsLabelOf (symbols : List (List ℕ)) (before : List ℕ) (raw : RawLabel) (label : Label) : Type 0 where
  pub name_is : slice_get symbols raw.name.number ≡ Some label.name
  pub value_is : slice_get symbols raw.value.number ≡ Some label.value
  pub ascends : ComesBefore before label.name
  pub some : 0 < length label.value

pub label_parts : (symbols : List (List ℕ)) (before : List ℕ) (raw : RawLabel) (label : Label) → label_of symbols before raw ≡ Ok label → IsLabelOf symbols before raw label
unfolding label_of
label_parts symbols before raw label e =
    let n = bind_ok _ _ _ e in
    let ordered = unless_ok _ _ _ _ n.2 in
    let v = bind_ok _ _ _ ordered.1 in
    let long = unless_ok _ _ _ _ v.2 in
    let same = ok_is {E = PartRefusal} _ _ long.1 in
    record {
      name_is = ok_or_ok (slice_get symbols raw.name.number) (Unordered raw.name.place) n.0 n.1 ∙ ap (λ (l : Label). Some l.name) same;
      value_is = ok_or_ok (slice_get symbols raw.value.number) (Unordered raw.value.place) v.0 v.1 ∙ ap (λ (l : Label). Some l.value) same;
      ascends = ap (λ (l : Label). compare_texts before l.name) (sym same) ∙ Less-from_is_lt (compare_texts before n.0) ordered.0;
      some = rw (← same) (ltb-true 0 (length v.0) long.0);
    }

pub again : {A E : Type 0} (r : Result (List A) E) → r ≡ (r >>= λ others. Ok ([] ++ others))
again (Ok xs) = refl
again (Err e) = refl

pub moved : {A E : Type 0} (r : Result (List A) E) (x : A) (front : List A) → ((r >>= λ others. Ok (x ∷ others)) >>= λ others. Ok (front ++ others)) ≡ (r >>= λ others. Ok ((front ++ x ∷ []) ++ others))
moved (Ok xs) x front = ap Ok (sym (append_assoc front (x ∷ []) xs))
moved (Err e) x _ = refl

pub one_more : (symbols : List (List ℕ)) (before : List ℕ) (raw : RawLabel) (others : List RawLabel) (label : Label) → label_of symbols before raw ≡ Ok label → labels_of symbols before (raw ∷ others) ≡ (labels_of symbols label.name others >>= λ labels. Ok (label ∷ labels))
unfolding labels_of
one_more _ _ _ _ _ e = rw e refl

pub none_more : (symbols : List (List ℕ)) (before : List ℕ) (raw : RawLabel) (others : List RawLabel) (refusal : PartRefusal) → label_of symbols before raw ≡ Err refusal → labels_of symbols before (raw ∷ others) ≡ Err refusal
unfolding labels_of
none_more _ _ _ _ _ e = rw e refl

-- ---- from a call's clauses

pub gives_err : {X Y E : Type 0} (no_memory : E) (view : X → Y) (r : Result X E) (e : E) (read : Result Y E) → IsErrAnd r (λ d. d ≡ e) → read ≡ Err e → Gives no_memory view r read
gives_err _ _ (Ok x) e _ is h = absurd is
gives_err _ _ (Err d) e _ is h = inr (h ∙ ap Err (sym is))

pub gives_refused : {X Y E : Type 0} (no_memory : E) (view : X → Y) (r : Result X E) (e : E) (read : Result Y E) → IsErrAnd r (λ d. d ≡ e) → (e ≡ no_memory) ⊎ (read ≡ Err e) → Gives no_memory view r read
gives_refused _ _ (Ok x) e _ is h = absurd is
gives_refused _ _ (Err d) e _ is (inl out) = inl (is ∙ out)
gives_refused _ _ (Err d) e _ is (inr h) = inr (h ∙ ap Err (sym is))

pub answers_err : {X Y E : Type 0} (view : X → Y) (r : Result X E) (e : E) (read : Result Y E) → IsErrAnd r (λ d. d ≡ e) → read ≡ Err e → Answers view r read
answers_err _ (Ok x) e _ is h = absurd is
answers_err _ (Err d) e _ is h = h ∙ ap Err (sym is)

-- what is answered is given, also of what is read alike
pub gives_answered : {X Y E : Type 0} (no_memory : E) (view : X → Y) (r : Result X E) (whole part : Result Y E) → whole ≡ part → Answers view r part → Gives no_memory view r whole
gives_answered _ _ (Ok x) _ _ same h = same ∙ h
gives_answered _ _ (Err d) _ _ same h = inr (same ∙ h)
