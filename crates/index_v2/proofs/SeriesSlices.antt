-- A series of a number that is read in a part of an index, and the same in the index.
use Rattle.std.proofs.Common.{◌≡◌, ℕ, ◌+◌, ◌-◌, ◌*◌, ◌^◌, ◌<◌, ◌≤◌, List, [], ◌∷◌, ◌++◌, length, Option, Some, None, Result, Ok, Err, refl, sym, ap, subst, ◌∙◌, arith, ◌⊎◌, inl, inr}
use Rattle.std.specs.Prelude.{slice_get, nat_lt}
use Rattle.std.specs.Ordering.{is_lt}
use Rattle.std.specs.Option.{ok_or}
use Rattle.std.proofs.lemmas.List.{length-replicate, length-map, drop_all}
use Rattle.base.specs.Reading.{refused_as, Gives}
use Rattle.base.specs.Grammar.{IsBytes}
use Rattle.base.proofs.Binds.{err_is}
use Rattle.wire_bytes.specs.declared.varint.WireRefusal.TheVariants as wire
use Rattle.wire_bytes.specs.Fields.{groups_of, uvarint_at}
use Rattle.wire_bytes.specs.Position.{Position}
use Rattle.label_sets.specs.declared.label.Label.{Label}
use Rattle.label_sets.specs.Labels.{compare_texts}
use Rattle.index_parts.specs.declared.refusal.PartRefusal.{PartRefusal}
use Rattle.index_parts.specs.declared.refusal.PartRefusal.TheVariants as part
use Rattle.index_parts.specs.declared.refusal.PartRefusal.TheVariants.{Unordered}
use Rattle.index_parts.specs.declared.raw_series.SymbolNumber.{SymbolNumber}
use Rattle.index_parts.specs.declared.raw_series.RawLabel.{RawLabel}
use Rattle.index_parts.specs.Placed.{at_place}
use Rattle.index_parts.specs.SeriesReading.{labels_begin_at, names_of, values_of}
use Rattle.index_parts.proofs.SeriesLaws.{series_found}
use Rattle.index_parts.proofs.SeriesLaws.{series_few as raw_few}
use Rattle.index_parts.specs.declared.index_series.IndexSeries.{IndexSeries}
use Rattle.index_parts.specs.IndexFile.{IsSeriesOf}
use Rattle.index_parts.specs.Parts.{Part, known, IsPartOf, HoldsSeries}
use Rattle.index_parts.specs.Shifting.{shifted_refusal}
use Rattle.index_parts.proofs.Shifts.{IsMoved, IsSame, same_value, same_refusal, same_bind, same_step, same_unless}
use Rattle.index_parts.proofs.SeriesShifts.{IsFurther, LabelFurther, AreFurther, AreBehind, labels_same, begin_same, chunks_same}
use Rattle.index_parts.proofs.Longer.{framed_refused}
use Rattle.index_parts.proofs.Slices.{IsTold, told_from, room_behind}
use Rattle.index_parts.proofs.SeriesSlices.{series_stands, begin_in_index}
use Rattle.index_v2.specs.declared.refusal.IndexRefusal.{IndexRefusal}
use Rattle.index_v2.specs.declared.refusal.IndexRefusal.TheVariants.{BadSeries, NoMemory}
use Rattle.index_v2.specs.Opening.{refused_of}
use Rattle.index_v2.specs.SeriesLabels.{label_of, labels_of, texts_at, labelled_at, numbered_at}
use Rattle.index_v2.proofs.FewLaws.{as_many}
use Rattle.index_v2.proofs.LabelledSeries.{labelled_not_begun, labelled_parts}
use Rattle.index_v2.proofs.LabelLaws.{labels_found, set_from_chain}

-- ---- read in front of other bytes

module _ (front : List ℕ) (most : ℕ) where
  abbrev Same : {A : Type 0} → Result A PartRefusal → Result A PartRefusal → Type 0
  Same r s = IsSame front most (λ x y. x ≡ y) r s

  found_same : (o : Option (List ℕ)) (m n : SymbolNumber) → IsFurther front most m n → Same (ok_or o (Unordered m.place)) (ok_or o (Unordered n.place))
  found_same (Some text) m n f = same_value front most (λ x y. x ≡ y) text text refl
  found_same None m n f = same_refusal front most (λ x y. x ≡ y) _ _ (ap Unordered f.place_is) f.within

  looked_up : (symbols : List (List ℕ)) (m n : SymbolNumber) → IsFurther front most m n → Same (ok_or (slice_get symbols m.number) (Unordered m.place)) (ok_or (slice_get symbols n.number) (Unordered n.place))
  looked_up symbols m n f = rw (← f.number_is) (found_same (slice_get symbols m.number) m n f)

  label_same : (symbols : List (List ℕ)) (before : List ℕ) (x y : RawLabel) → LabelFurther front most x y → Same (label_of symbols before x) (label_of symbols before y)
  unfolding label_of
  label_same symbols before x y f =
      same_bind front most (λ v w. v ≡ w) (λ v w. v ≡ w) _ _ _ _ (looked_up symbols x.name y.name f.0) (λ name other e same. rw (← same)
      (same_unless front most (λ v w. v ≡ w) (is_lt (compare_texts before name)) _ _ _ _ (ap Unordered f.0.place_is) f.0.within (λ _.
      same_bind front most (λ v w. v ≡ w) (λ v w. v ≡ w) _ _ _ _ (looked_up symbols x.value y.value f.1) (λ value other e same. rw (← same)
      (same_unless front most (λ v w. v ≡ w) (nat_lt 0 (length value)) _ _ _ _ (ap Unordered f.1.place_is) f.1.within (λ _.
      same_value front most (λ v w. v ≡ w) _ _ refl))))))

  all_same : (symbols : List (List ℕ)) (before : List ℕ) (xs ys : List RawLabel) → AreFurther front most xs ys → Same (labels_of symbols before xs) (labels_of symbols before ys)
  unfolding labels_of
  all_same symbols before [] [] f = same_value front most (λ v w. v ≡ w) _ _ refl
  all_same symbols before [] (y ∷ ys) f = absurd f
  all_same symbols before (x ∷ xs) [] f = absurd f
  all_same symbols before (x ∷ xs) (y ∷ ys) f =
      same_bind front most (λ v w. v ≡ w) (λ v w. v ≡ w) _ _ _ _ (label_same symbols before x y f.0) (λ label other e same. rw (← same)
      (same_bind front most (λ v w. v ≡ w) (λ v w. v ≡ w) _ _ _ _ (all_same symbols label.name xs ys f.1) (λ labels more e same.
      same_value front most (λ v w. v ≡ w) _ _ (ap (λ ls. label ∷ ls) same))))

  texts_same : (symbols : List (List ℕ)) (count : ℕ) (p q : Position) → IsMoved front most p q → IsSame front most (AreBehind front most Same) (texts_at symbols [] count p) (texts_at symbols [] count q)
  unfolding texts_at
  texts_same symbols count p q m =
      same_bind front most (AreBehind front most (AreFurther front most)) (AreBehind front most Same) _ _ _ _ (labels_same front most count p q m) (λ x y e h.
      same_value front most (AreBehind front most Same) _ _ (record { values = all_same symbols [] x.0 y.0 h.values; state = h.state }))

  labelled_same : (bytes : List ℕ) (symbols : List (List ℕ)) (at : ℕ) → length bytes ≤ most → at ≤ most → Same (labelled_at bytes symbols at) (labelled_at (front ++ bytes) symbols (length front + at))
  unfolding labelled_at
  labelled_same bytes symbols at few le =
      same_step front most (IsMoved front most) (λ v w. v ≡ w) _ _ _ _ (begin_same front most bytes at few le) (λ count p q e m.
      same_bind front most (AreBehind front most Same) (λ v w. v ≡ w) _ _ _ _ (texts_same symbols count p q m) (λ x y e h.
      same_bind front most (λ v w. v ≡ w) (λ v w. v ≡ w) _ _ _ _ (chunks_same front most x.1 y.1 h.state) (λ chunks others e same. rw (← same)
      (same_bind front most (λ v w. v ≡ w) (λ v w. v ≡ w) _ _ _ _ h.values (λ labels more e same.
      same_value front most (λ v w. v ≡ w) _ _ (ap (λ (labels : List Label). record { labels = labels; chunks = chunks }) same))))))

-- ---- where the series lies within the part

labelled_by_begin : (index other : List ℕ) (symbols : List (List ℕ)) (at : ℕ) → labels_begin_at index at ≡ labels_begin_at other at → labelled_at index symbols at ≡ labelled_at other symbols at
unfolding labelled_at
labelled_by_begin _ _ _ _ e = rw e refl

module _ (here : Part) (symbols : List (List ℕ)) (at : ℕ) (begins : here.begin ≤ at) (small : at < 2 ^ 64) (fits : here.begin + length here.bytes < 2 ^ 64) where
  told_behind : (front : List ℕ) → length front ≡ here.begin → IsTold here.begin (labelled_at here.bytes symbols (at - here.begin)) (labelled_at (front ++ here.bytes) symbols at)
  told_behind front is =
      let most = room_behind here.begin in
      let place : length front + (at - here.begin) ≡ at = omega arith in
      told_from _ _ _ _ _ is (omega arith)
      (subst (λ n. IsSame front most (λ x y. x ≡ y) (labelled_at here.bytes symbols (at - here.begin)) (labelled_at (front ++ here.bytes) symbols n)) place
      (labelled_same _ _ _ _ _ (omega arith) (omega arith)))

  pub series_known_told : IsTold here.begin (labelled_at here.bytes symbols (at - here.begin)) (labelled_at (known here) symbols at)
  series_known_told = told_behind _ (length-replicate _ 0)

  pub series_index_told : (index : List ℕ) → IsPartOf here index → HoldsSeries here at → IsTold here.begin (labelled_at here.bytes symbols (at - here.begin)) (labelled_at index symbols at)
  series_index_told _ is lies =
      let same = labelled_by_begin _ _ symbols at (begin_in_index _ _ at is lies) in
      subst (λ s. IsTold here.begin (labelled_at here.bytes symbols (at - here.begin)) s) (sym same) (told_behind _ is.begins)

-- ---- what is read stands in the index

pub series_stands_in : (here : Part) (index : List ℕ) (symbols : List (List ℕ)) (number : ℕ) (series : IndexSeries) → IsPartOf here index → here.begin ≤ 16 * number → IsBytes here.bytes → labelled_at here.bytes symbols (16 * number - here.begin) ≡ Ok series → IsSeriesOf index symbols number series
series_stands_in _ index symbols number series is le are e =
    let p = labelled_parts _ _ _ _ e in
    let labels = labels_found _ _ _ _ p.labels_are in
    record {
      names = names_of p.raws;
      values = values_of p.raws;
      stands = series_stands _ _ _ _ is le (series_found _ _ _ are p.stands);
      names_are = labels.0;
      values_are = labels.1;
      lawful = (set_from_chain _ _ labels.2).0;
    }

-- labels and chunks take bytes of the part
pub series_few_in : (bytes : List ℕ) (symbols : List (List ℕ)) (at : ℕ) (series : IndexSeries) → IsBytes bytes → labelled_at bytes symbols at ≡ Ok series → 2 * length series.labels + 3 * length series.chunks ≤ length bytes
series_few_in bytes symbols at series are e =
    let p = labelled_parts _ _ at series e in
    let labels = labels_found _ _ _ _ p.labels_are in
    let few = raw_few bytes at _ (series_found _ at _ are p.stands) in
    let names = as_many _ _ _ labels.0 in
    let values = as_many _ _ _ labels.1 in
    omega (arith, length-map series.labels (λ l. l.name), length-map series.labels (λ l. l.value))

-- ---- from the series' own refusals to those of the call

module _ (number begin : ℕ) (r s : Result IndexSeries PartRefusal) (told : IsTold begin r s) where
  pub number_found : (series : IndexSeries) → r ≡ Ok series → refused_as (refused_of number) s ≡ Ok series
  number_found series e = ap (refused_as (refused_of number)) (told.found series e)

  pub number_refused : (d e : PartRefusal) (f : IndexRefusal) → e ≡ shifted_refusal begin d → f ≡ refused_of number e → (d ≡ part.NoMemory) ⊎ (r ≡ Err d) → (f ≡ NoMemory) ⊎ (refused_as (refused_of number) s ≡ Err f)
  number_refused d e f shift is (inl none) = inl (is ∙ ap (refused_of number) (shift ∙ ap (shifted_refusal begin) none))
  number_refused d e f shift is (inr h) = inr (ap (refused_as (refused_of number)) (told.refused d h) ∙ ap (λ x. Err (refused_of number x)) (sym shift) ∙ ap Err (sym is))

-- ---- where no bytes are there

empty_size : (at : ℕ) → uvarint_at (at_place [] at) ≡ Err wire.Short
unfolding uvarint_at groups_of
empty_size at = rw (drop_all {X = ℕ} at [] (omega arith)) refl

no_begin : (at : ℕ) → labels_begin_at [] at ≡ Err (part.Short at)
unfolding labels_begin_at
no_begin at = rw (framed_refused uvarint_at [] at wire.Short (empty_size at)) refl

pub number_absent : (symbols : List (List ℕ)) (number : ℕ) → numbered_at [] symbols number ≡ Err (BadSeries number (part.Short (16 * number)))
number_absent _ number = ap (refused_as (refused_of number)) (labelled_not_begun _ _ _ _ (no_begin _))

-- a call says so, unless memory runs out
pub refused_or_none : {X Y : Type 0} (view : X → Y) (r : Result X IndexRefusal) (read : Result Y IndexRefusal) (refusal : IndexRefusal) → read ≡ Err refusal → Gives NoMemory view r read → (r ≡ Err refusal) ⊎ (r ≡ Err NoMemory)
refused_or_none _ (Ok x) _ _ e h = let no = sym h ∙ e in absurd cc
refused_or_none _ (Err d) _ _ e (inl none) = inr (ap Err none)
refused_or_none {Y = Y} _ (Err d) _ _ e (inr is) = inl (ap Err (err_is {A = Y} d _ (sym is ∙ e)))
