-- Labels whose texts are looked up while their symbol numbers are read.
use Rattle.std.proofs.Common.{◌≡◌, ℕ, suc, ◌+◌, ◌-◌, ◌<◌, ◌≤◌, List, [], ◌∷◌, ◌++◌, Result, Ok, Err, refl, ap, ◌∙◌, arith}
use Rattle.std.specs.Result.{result_map_both}
use Rattle.std.proofs.lemmas.List.{append-nil}
use Rattle.base.specs.Reading.{◌>>=◌}
use Rattle.base.specs.Members.{members_at}
use Rattle.wire_bytes.specs.Position.{Position}
use Rattle.index_parts.specs.declared.refusal.PartRefusal.{PartRefusal}
use Rattle.index_parts.specs.declared.raw_series.RawLabel.{RawLabel}
use Rattle.index_parts.specs.SeriesReading.{label_at}
use Rattle.label_sets.specs.declared.label.Label.{Label}
use Rattle.index_v2.specs.SeriesLabels.{label_of, labels_of, texts_at, faulty_at}
use Rattle.index_v2.proofs.LabelReading.{moved, one_more, none_more}

abbrev Raws : Type 0
Raws = Result (List RawLabel × Position) PartRefusal

abbrev Texts : Type 0
Texts = Result (Result (List Label) PartRefusal × Position) PartRefusal

abbrev first_raw : RawLabel → Raws → Raws
first_raw raw r = r >>= λ others. Ok (raw ∷ others.0, others.1)

-- the texts of labels, and a refusal behind labels
abbrev looked_up : List (List ℕ) → List ℕ → Raws → Texts
looked_up symbols before r = r >>= λ labels. Ok (labels_of symbols before labels.0, labels.1)

abbrev fault_behind : PartRefusal → Raws → Texts
fault_behind fault r = r >>= λ labels. Ok (Err fault, labels.1)

-- texts before those that follow
abbrev behind : List Label → Texts → Texts
behind front r = r >>= λ texts. Ok (texts.0 >>= λ others. Ok (front ++ others), texts.1)

-- ---- one label more

module _ (n : ℕ) (p : Position) where
  labels_more : (q : Position) (raw : RawLabel) → label_at p ≡ Ok (raw, q) → members_at label_at (suc n) p ≡ first_raw raw (members_at label_at n q)
  unfolding members_at
  labels_more _ _ e = rw e refl

  labels_refused : (refusal : PartRefusal) → label_at p ≡ Err refusal → members_at label_at (suc n) p ≡ Err refusal
  unfolding members_at
  labels_refused _ e = rw e refl

-- ---- their texts

text_first : (symbols : List (List ℕ)) (before : List ℕ) (raw : RawLabel) (label : Label) → label_of symbols before raw ≡ Ok label → (r : Raws) → looked_up symbols before (first_raw raw r) ≡ behind (label ∷ []) (looked_up symbols label.name r)
text_first _ _ _ _ e (Ok x) = ap (λ texts. Ok (texts, x.1)) (one_more _ _ _ _ _ e)
text_first _ _ _ _ e (Err refusal) = refl

texts_more : (symbols : List (List ℕ)) (before : List ℕ) (n : ℕ) (p q : Position) (raw : RawLabel) (label : Label) → label_at p ≡ Ok (raw, q) → label_of symbols before raw ≡ Ok label → texts_at symbols before (suc n) p ≡ behind (label ∷ []) (texts_at symbols label.name n q)
unfolding texts_at
texts_more _ _ n p q raw _ e f = rw (labels_more n p q raw e) (text_first _ _ _ _ f _)

text_faulty : (symbols : List (List ℕ)) (before : List ℕ) (raw : RawLabel) (fault : PartRefusal) → label_of symbols before raw ≡ Err fault → (r : Raws) → looked_up symbols before (first_raw raw r) ≡ fault_behind fault r
text_faulty _ _ _ _ e (Ok x) = ap (λ texts. Ok (texts, x.1)) (none_more _ _ _ _ _ e)
text_faulty _ _ _ _ e (Err refusal) = refl

texts_faulty : (symbols : List (List ℕ)) (before : List ℕ) (n : ℕ) (p q : Position) (raw : RawLabel) (fault : PartRefusal) → label_at p ≡ Ok (raw, q) → label_of symbols before raw ≡ Err fault → texts_at symbols before (suc n) p ≡ faulty_at fault n q
unfolding texts_at faulty_at
texts_faulty _ _ n p q raw _ e f = rw (labels_more n p q raw e) (text_faulty _ _ _ _ f _)

texts_refused : (symbols : List (List ℕ)) (before : List ℕ) (n : ℕ) (p : Position) (refusal : PartRefusal) → label_at p ≡ Err refusal → texts_at symbols before (suc n) p ≡ Err refusal
unfolding texts_at
texts_refused _ _ n p refusal e = rw (labels_refused n p refusal e) refl

texts_none : (symbols : List (List ℕ)) (before : List ℕ) (p : Position) → texts_at symbols before 0 p ≡ Ok (Ok [], p)
unfolding texts_at labels_of members_at
texts_none _ _ p = refl

-- ---- the loop over so many labels

-- what was read of the front, and what is left, is the whole
pub record AreTextsSoFar (symbols : List (List ℕ)) (count : ℕ) (start : Position) (before : List ℕ) (place : ℕ) (labels : List Label) (p : Position) : Type 0 where
  pub whole : texts_at symbols [] count start ≡ behind labels (texts_at symbols before (count - place) p)

behind-more : (front : List Label) (label : Label) (r : Texts) → behind front (behind (label ∷ []) r) ≡ behind (front ++ label ∷ []) r
behind-more _ _ (Ok x) = ap (λ texts. Ok (texts, x.1)) (moved _ _ _)
behind-more _ _ (Err e) = refl

pub texts_step : (symbols : List (List ℕ)) (count : ℕ) (start : Position) (before : List ℕ) (place next : ℕ) (labels new : List Label) (p q : Position) (raw : RawLabel) (label : Label)
    → AreTextsSoFar symbols count start before place labels p → label_at p ≡ Ok (raw, q) → label_of symbols before raw ≡ Ok label → place < count → next ≡ place + 1 → new ≡ labels ++ label ∷ []
    → AreTextsSoFar symbols count start label.name next new q
texts_step symbols count _ before place _ labels _ p q _ label far read found lt e last =
    let left : count - place ≡ suc (count - (place + 1)) = omega arith in
    let front : texts_at symbols before (count - place) p ≡ behind (label ∷ []) (texts_at symbols label.name (count - (place + 1)) q) =
    rw left (texts_more _ _ _ p q _ _ read found) in
    rw (e, last) (record { whole = far.whole ∙ ap (behind labels) front ∙ behind-more _ _ _ })

pub texts_stop : (symbols : List (List ℕ)) (count : ℕ) (start : Position) (before : List ℕ) (place : ℕ) (labels : List Label) (p : Position) (refusal : PartRefusal)
    → AreTextsSoFar symbols count start before place labels p → label_at p ≡ Err refusal → place < count → texts_at symbols [] count start ≡ Err refusal
texts_stop symbols count _ before place labels p refusal far read lt =
    let left : count - place ≡ suc (count - (place + 1)) = omega arith in
    let front : texts_at symbols before (count - place) p ≡ Err refusal = rw left (texts_refused _ _ _ p _ read) in
    far.whole ∙ ap (behind labels) front

behind-faulty : (front : List Label) (fault : PartRefusal) (r : Raws) → behind front (fault_behind fault r) ≡ fault_behind fault r
behind-faulty _ _ (Ok x) = refl
behind-faulty _ _ (Err e) = refl

faulty-behind : (front : List Label) (fault : PartRefusal) (n : ℕ) (p : Position) → behind front (faulty_at fault n p) ≡ faulty_at fault n p
unfolding faulty_at
faulty-behind _ _ n p = behind-faulty _ _ _

pub texts_fault : (symbols : List (List ℕ)) (count : ℕ) (start : Position) (before : List ℕ) (place left : ℕ) (labels : List Label) (p q : Position) (raw : RawLabel) (fault : PartRefusal)
    → AreTextsSoFar symbols count start before place labels p → label_at p ≡ Ok (raw, q) → label_of symbols before raw ≡ Err fault → place < count → left ≡ count - place - 1
    → texts_at symbols [] count start ≡ faulty_at fault left q
texts_fault symbols count _ before place left labels p q _ fault far read found lt e =
    let more : count - place ≡ suc left = omega arith in
    let front : texts_at symbols before (count - place) p ≡ faulty_at fault left q = rw more (texts_faulty _ _ _ p q _ _ read found) in
    far.whole ∙ ap (behind labels) front ∙ faulty-behind _ _ _ q

pub texts_end : (symbols : List (List ℕ)) (count : ℕ) (start : Position) (before : List ℕ) (place : ℕ) (labels : List Label) (p : Position)
    → AreTextsSoFar symbols count start before place labels p → count ≤ place → texts_at symbols [] count start ≡ Ok (Ok labels, p)
texts_end symbols count _ before place labels p far le =
    let none : count - place ≡ 0 = omega arith in
    let front : texts_at symbols before (count - place) p ≡ Ok (Ok [], p) = rw none (texts_none _ _ p) in
    far.whole ∙ ap (behind labels) front ∙ ap (λ found. Ok (Ok found, p)) (append-nil labels)

-- ---- the loop behind a fault

pub record WerePassed (fault : PartRefusal) (count : ℕ) (start : Position) (passed : ℕ) (p : Position) : Type 0 where
  pub whole : faulty_at fault count start ≡ faulty_at fault (count - passed) p

fault_first : (raw : RawLabel) (fault : PartRefusal) (r : Raws) → fault_behind fault (first_raw raw r) ≡ fault_behind fault r
fault_first _ _ (Ok x) = refl
fault_first _ _ (Err e) = refl

faulty_more : (fault : PartRefusal) (n : ℕ) (p q : Position) (raw : RawLabel) → label_at p ≡ Ok (raw, q) → faulty_at fault (suc n) p ≡ faulty_at fault n q
unfolding faulty_at
faulty_more _ n p q raw e = rw (labels_more n p q raw e) (fault_first _ _ _)

faulty_refused : (fault : PartRefusal) (n : ℕ) (p : Position) (refusal : PartRefusal) → label_at p ≡ Err refusal → faulty_at fault (suc n) p ≡ Err refusal
unfolding faulty_at
faulty_refused _ n p refusal e = rw (labels_refused n p refusal e) refl

faulty_none : (fault : PartRefusal) (p : Position) → faulty_at fault 0 p ≡ Ok (Err fault, p)
unfolding faulty_at members_at
faulty_none _ p = refl

pub passing_steps : (fault : PartRefusal) (count : ℕ) (start : Position) (passed : ℕ) (p q : Position) (raw : RawLabel) → WerePassed fault count start passed p → label_at p ≡ Ok (raw, q) → passed < count → WerePassed fault count start (passed + 1) q
passing_steps fault count start passed p q raw far read lt =
    let left : count - passed ≡ suc (count - (passed + 1)) = omega arith in
    record { whole = far.whole ∙ rw left (faulty_more fault (count - (passed + 1)) p q raw read) }

pub passing_stops : (fault : PartRefusal) (count : ℕ) (start : Position) (passed : ℕ) (p : Position) (refusal : PartRefusal) → WerePassed fault count start passed p → label_at p ≡ Err refusal → passed < count → faulty_at fault count start ≡ Err refusal
passing_stops _ count _ passed p _ far read lt =
    let left : count - passed ≡ suc (count - (passed + 1)) = omega arith in
    far.whole ∙ rw left (faulty_refused _ _ p _ read)

pub passing_ends : (fault : PartRefusal) (count : ℕ) (start : Position) (passed : ℕ) (p : Position) → WerePassed fault count start passed p → count ≤ passed → faulty_at fault count start ≡ Ok (Err fault, p)
passing_ends _ count _ passed p far le =
    let none : count - passed ≡ 0 = omega arith in
    far.whole ∙ rw none (faulty_none _ p)

-- ---- what was read

-- the same of labels that are told in other words
pub texts_told : {V : Type 0} (view : V → List Label) (symbols : List (List ℕ)) (count : ℕ) (p q : Position) (told texts : Result V PartRefusal) → texts_at symbols [] count p ≡ Ok (result_map_both view (λ refusal. refusal) told, q) → told ≡ texts → texts_at symbols [] count p ≡ Ok (result_map_both view (λ refusal. refusal) texts, q)
texts_told {V} view _ _ p q _ _ e same = e ∙ ap (λ x. Ok (result_map_both view (λ refusal. refusal) x, q)) same
