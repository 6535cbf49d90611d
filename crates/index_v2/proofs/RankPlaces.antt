-- Ranks that are sought among others, as rows are sought by their texts.
use Rattle.std.proofs.Common.{◌≡◌, ℕ, zero, suc, ◌+◌, ◌<◌, ◌≤◌, Bool, true, false, List, [], ◌∷◌, length, map, get_or, Option, Some, None, Result, Ok, Err, refl, sym, ap, ap₂, subst, ◌∙◌, arith, inl, inr}
use Rattle.std.specs.Prelude.{slice_get, is_ok, option_map, IfOk, IfErr, ◌==◌, ◌&&◌}
use Rattle.std.specs.declared.cmp.Ordering.{Ordering}
use Rattle.std.specs.declared.cmp.Ordering.TheVariants.{Less, Equal, Greater}
use Rattle.std.specs.List.{AllByRecursion}
use Rattle.std.specs.List.Sorted.{IsStrictlySortedBy}
use Rattle.std.specs.Str.{bytes_eq}
use Rattle.std.specs.Cmp.Lexicographic.{bytes_decides}
use Rattle.std.specs.Ordering.{ordering_then}
use Rattle.std.proofs.lemmas.Bool.{cases_lt, true≢false}
use Rattle.std.proofs.lemmas.List.{length-map}
use Rattle.std.proofs.lemmas.Option.{same_Some, slice_get-get_or, slice_get_within, slice_get-map}
use Rattle.base.proofs.Bools.{bytes_eq-itself}
use Rattle.label_sets.specs.declared.label.Label.{Label}
use Rattle.label_sets.specs.Labels.{IsLabelSet, StandsBefore, compare_texts, value_of}
use Rattle.label_sets.proofs.LabelValues.{compare_self, value_hit, value_miss, value_nil, by_bool}
use Rattle.index_parts.specs.declared.postings_row.PostingsRow.{PostingsRow}
use Rattle.index_parts.specs.declared.index_series.IndexSeries.{IndexSeries}
use Rattle.index_parts.specs.Rows.{compare_rows}
use Rattle.index_parts.specs.RowOrder.{compare_row, IsRowAt, StandsAt}
use Rattle.index_parts.proofs.RowPlaces.{IsBetween, between_raised, between_lowered, equal_row}
use Rattle.index_v2.specs.declared.ranks.Ranks.{Ranks}
use Rattle.index_v2.specs.Ranks.{CompareAlike, compare_ranks, IsLabelRank, AreLabelRanks, IsRowRank, AreRowRanks, IsRanked, TellsRow}
use Rattle.index_v2.specs.WholeReading.{has_value, belongs}
use Rattle.index_v2.proofs.SymbolRanks.{row_so, label_so}

-- ---- the search

row_there : (rows : List PostingsRow) (ranks : List Ranks) (k : ℕ) (d : PostingsRow) → length rows ≡ length ranks → k < length ranks → slice_get rows k ≡ Some (get_or rows k d)
row_there rows ranks k d many lt = slice_get-get_or rows k d (omega (arith, many, lt))

some_row : (rows : List PostingsRow) → 0 < length rows → PostingsRow
some_row [] lt = absurd (omega (arith, lt))
some_row (r ∷ rows) lt = r

module _ (rows : List PostingsRow) (ranks : List Ranks) (name value : List ℕ) (sought : Ranks) (alike : CompareAlike rows ranks name value sought) where
  -- how the row at a place stands
  pub row_at : (k : ℕ) (d : Ranks) → k < length ranks → (row : PostingsRow) × (slice_get rows k ≡ Some row) × (compare_ranks (get_or ranks k d) sought ≡ compare_row row name value)
  row_at k d lt =
      let row = get_or rows k (some_row rows (omega (arith, lt, alike.many))) in
      let at : slice_get rows k ≡ Some row = row_there rows ranks k _ alike.many lt in
      (row, at, alike.each k row (get_or ranks k d) at (slice_get-get_or ranks k d lt))

  pub between_start : (high : ℕ) → high ≡ length ranks → IsBetween rows name value 0 high
  between_start high e = record {
    ordered = omega arith;
    within = omega (arith, e, alike.many);
    below = λ k row lt at. absurd (omega (arith, lt));
    above = λ k row le at. absurd (omega (arith, le, e, alike.many, slice_get_within rows k row at));
  }

  module _ (low high middle : ℕ) (here d : Ranks) (o : Ordering) (b : IsBetween rows name value low high) (lt : middle < high) (within : middle < length ranks) (at : here ≡ get_or ranks middle d) (is : o ≡ compare_ranks here sought) where
    found : (row : PostingsRow) × (slice_get rows middle ≡ Some row) × (o ≡ compare_row row name value)
    found = let r = row_at middle d within in (r.0, r.1, is ∙ ap (λ (x : Ranks). compare_ranks x sought) at ∙ r.2)

    pub raised : (new : ℕ) → o ≡ Less → new ≡ middle + 1 → IsBetween rows name value new high
    raised new less e = between_raised rows name value low high middle new found.0 alike.ascend b lt found.1 (sym found.2 ∙ less) e

    pub lowered : low ≤ middle → o ≡ Greater → IsBetween rows name value low middle
    lowered le greater = between_lowered rows name value low high middle found.0 alike.ascend b le lt found.1 (sym found.2 ∙ greater)

  pub stands_here : (place : ℕ) (here d : Ranks) (o : Ordering) → place < length ranks → here ≡ get_or ranks place d → o ≡ compare_ranks here sought → o ≡ Equal → IsRowAt rows name value place
  stands_here place here d o lt at is equal =
      let r = row_at place d lt in
      equal_row rows name value place r.0 r.1 (sym (is ∙ ap (λ (x : Ranks). compare_ranks x sought) at ∙ r.2) ∙ equal)

  pub ends_between : (low high : ℕ) → IsBetween rows name value low high → high ≤ low → StandsAt rows name value low
  ends_between low high b le = record {
    within = omega (arith, b.ordered, b.within, le);
    below = b.below;
    above = λ k row more at. b.above k row (omega (arith, le, more)) at;
  }

-- ---- rows against a label

pub rows_alike : (symbols : List (List ℕ)) (rows : List PostingsRow) (ranks : List Ranks) (label : Label) (r : Ranks) → AreRowRanks symbols rows ranks → IsLabelRank symbols label r → CompareAlike rows ranks label.name label.value r
rows_alike symbols rows ranks label r are is = record {
  many = are.many;
  ascend = are.ascend;
  each = λ k row its at there. row_so symbols row its label r (are.each k row its at there) is;
}

-- ---- labels against a row, as rows of their own

abbrev as_row : Label → PostingsRow
as_row label = record { name = label.name; value = label.value; offset = 0 }

rows_behind : (name value : List ℕ) (labels : List Label) → StandsBefore name labels → AllByRecursion (λ row. compare_rows (record { name = name; value = value; offset = 0 }) row ≡ Less) (map as_row labels)
rows_behind name value [] before = tt
rows_behind name value (l ∷ labels) before = (ap (λ (o : Ordering). ordering_then o (compare_texts value l.value)) before.0, rows_behind name value labels before.1)

rows_ascend : (labels : List Label) → IsLabelSet labels → IsStrictlySortedBy compare_rows (map as_row labels)
unfolding IsStrictlySortedBy
rows_ascend [] is = tt
rows_ascend (l ∷ labels) is = (rows_behind l.name l.value labels is.2, rows_ascend labels is.3)

pub as_many : (symbols : List (List ℕ)) (labels : List Label) (ranks : List Ranks) → AreLabelRanks symbols labels ranks → length labels ≡ length ranks
as_many symbols [] [] are = refl
as_many symbols [] (r ∷ ranks) are = absurd are
as_many symbols (l ∷ labels) [] are = absurd are
as_many symbols (l ∷ labels) (r ∷ ranks) are = ap suc (as_many symbols labels ranks are.1)

pub one_rank : (symbols : List (List ℕ)) (labels : List Label) (ranks : List Ranks) (k : ℕ) (label : Label) (its : Ranks) → AreLabelRanks symbols labels ranks → slice_get labels k ≡ Some label → slice_get ranks k ≡ Some its → IsLabelRank symbols label its
one_rank symbols [] ranks k label its are at there = absurd cc
one_rank symbols (l ∷ labels) [] k label its are at there = absurd are
one_rank symbols (l ∷ labels) (r ∷ ranks) zero label its are at there = subst (λ (x : Ranks). IsLabelRank symbols label x) (same_Some r its there) (subst (λ (x : Label). IsLabelRank symbols x r) (same_Some l label at) are.0)
one_rank symbols (l ∷ labels) (r ∷ ranks) (suc k) label its are at there = one_rank symbols labels ranks k label its are.1 at there

label_of_row : (labels : List Label) (k : ℕ) (row : PostingsRow) → slice_get (map as_row labels) k ≡ Some row → (label : Label) × (slice_get labels k ≡ Some label) × (as_row label ≡ row)
label_of_row [] k row at = absurd cc
label_of_row (l ∷ labels) zero row at = (l, refl, same_Some (as_row l) row at)
label_of_row (l ∷ labels) (suc k) row at = label_of_row labels k row at

labels_alike : (symbols : List (List ℕ)) (labels : List Label) (ranks : List Ranks) (row : PostingsRow) (its : Ranks) → IsLabelSet labels → AreLabelRanks symbols labels ranks → IsRowRank symbols row its → CompareAlike (map as_row labels) ranks row.name row.value its
labels_alike symbols labels ranks row its lawful are is = record {
  many = length-map labels as_row ∙ as_many symbols labels ranks are;
  ascend = rows_ascend labels lawful;
  each = λ k other r at there.
      let l = label_of_row labels k other at in
      label_so symbols l.0 r row its (one_rank symbols labels ranks k l.0 r are l.1 there) is ∙ ap (λ (x : PostingsRow). compare_row x row.name row.value) l.2;
}

-- what is found tells the value of the name
named_later : (labels : List Label) (name value : List ℕ) (l : Label) (k : ℕ) (label : Label) → StandsBefore l.name labels → slice_get labels k ≡ Some label → label.name ≡ name → compare_texts l.name name ≡ Less
named_later [] name value l k label before at is = absurd cc
named_later (m ∷ labels) name value l zero label before at is = ap (compare_texts l.name) (sym (ap (λ (x : Label). x.name) (same_Some m label at) ∙ is)) ∙ before.0
named_later (m ∷ labels) name value l (suc k) label before at is = named_later labels name value l k label before.1 at is

less_differs : (one other : List ℕ) → compare_texts one other ≡ Less → one ≡ other → ⊥
less_differs one other less same =
    let e : Less ≡ Equal = sym less ∙ ap (λ (t : List ℕ). compare_texts t other) same ∙ compare_self other in
    absurd cc

value_at : (labels : List Label) (k : ℕ) (label : Label) → IsLabelSet labels → slice_get labels k ≡ Some label → value_of labels label.name ≡ Some label.value
value_at [] k label is at = absurd cc
value_at (l ∷ labels) zero label is at =
    let same : l ≡ label = same_Some l label at in
    value_hit l labels label.name (ap (λ (x : Label). x.name) same) ∙ ap (λ (x : Label). Some x.value) same
value_at (l ∷ labels) (suc k) label is at =
    value_miss l labels label.name (less_differs l.name label.name (named_later labels label.name label.value l k label is.2 at refl)) ∙ value_at labels k label is.3 at

value_found : (labels : List Label) (name value : List ℕ) (place : ℕ) → IsLabelSet labels → IsRowAt (map as_row labels) name value place → has_value value (value_of labels name) ≡ true
value_found labels name value place is at =
    let l = label_of_row labels place at.row at.stands in
    let n : l.0.name ≡ name = ap (λ (x : PostingsRow). x.name) l.2 ∙ at.name_is in
    let v : l.0.value ≡ value = ap (λ (x : PostingsRow). x.value) l.2 ∙ at.value_is in
    ap (λ (t : List ℕ). has_value value (value_of labels t)) (sym n) ∙ ap (has_value value) (value_at labels place l.0 is l.1) ∙ ap (λ (t : List ℕ). bytes_eq t value) v ∙ bytes_eq-itself value

-- a value that is found stands at a place
value_place : (labels : List Label) (name value : List ℕ) → has_value value (value_of labels name) ≡ true → (k : ℕ) × (label : Label) × (slice_get labels k ≡ Some label) × (label.name ≡ name) × (label.value ≡ value)
value_place [] name value e =
    let none = value_nil name in
    let f : false ≡ true = ap (has_value value) (sym none) ∙ e in
    absurd (true≢false (sym f))
value_place (l ∷ labels) name value e = by_bool (bytes_eq l.name name)
    (λ yes.
    let same : l.name ≡ name = (bytes_decides l.name name).0 yes in
    let v : bytes_eq l.value value ≡ true = ap (has_value value) (sym (value_hit l labels name same)) ∙ e in
    (0, l, refl, same, (bytes_decides l.value value).0 v))
    (λ no.
    let other : l.name ≡ name → ⊥ = λ same. true≢false (sym ((bytes_decides l.name name).1 same) ∙ no) in
    let p = value_place labels name value (ap (has_value value) (sym (value_miss l labels name other)) ∙ e) in
    (suc p.0, p.1, p.2, p.3, p.4))

value_absent : (labels : List Label) (name value : List ℕ) (place : ℕ) → StandsAt (map as_row labels) name value place → has_value value (value_of labels name) ≡ false
value_absent labels name value place stands = by_bool (has_value value (value_of labels name))
    (λ yes.
    let p = value_place labels name value yes in
    let at : slice_get (map as_row labels) p.0 ≡ Some (as_row p.1) = slice_get-map as_row labels p.0 ∙ ap (option_map as_row) p.2 in
    let equal : compare_row (as_row p.1) name value ≡ Equal = ap₂ ordering_then (ap (λ (t : List ℕ). compare_texts t name) p.3 ∙ compare_self name) (ap (λ (t : List ℕ). compare_texts t value) p.4 ∙ compare_self value) in
    elim (cases_lt p.0 place) [
      | inl below ↦ let less = stands.below p.0 (as_row p.1) below at in absurd cc
      | inr above ↦ let greater = stands.above p.0 (as_row p.1) above at in absurd cc
    ])
    (λ no. no)

told : (labels : List Label) (name value : List ℕ) (r : Result ℕ ℕ) → IsLabelSet labels → IfOk r (λ place. IsRowAt (map as_row labels) name value place) → IfErr r (λ place. StandsAt (map as_row labels) name value place) → is_ok r ≡ has_value value (value_of labels name)
told labels name value (Ok place) is at absent = sym (value_found labels name value place is at)
told labels name value (Err place) is at absent = sym (value_absent labels name value place absent)

not_all : (name value : List ℕ) (series : IndexSeries) → ((length name == 0) && (length value == 0)) ≡ false → belongs name value series ≡ has_value value (value_of series.labels name)
unfolding belongs
not_all name value series e = rw e refl

pub belongs_all : (symbols : List (List ℕ)) (row : PostingsRow) (series : IndexSeries) (o : Option Ranks) → o ≡ None → TellsRow symbols row o → true ≡ belongs row.name row.value series
unfolding belongs
belongs_all symbols row series None none tells = rw tells refl
belongs_all symbols row series (Some r) none tells = absurd cc

pub row_known : (symbols : List (List ℕ)) (row : PostingsRow) (its : Ranks) (o : Option Ranks) → o ≡ Some its → TellsRow symbols row o → TellsRow symbols row (Some its)
row_known symbols row its o e tells = subst (TellsRow symbols row) e tells

pub belongs_found : (symbols : List (List ℕ)) (row : PostingsRow) (series : IndexSeries) (ranks : List Ranks) (its : Ranks) (o : Option Ranks) (r : Result ℕ ℕ) (answer : Bool) → o ≡ Some its → TellsRow symbols row o → IsRanked symbols series ranks
    → ((rows : List PostingsRow) (name value : List ℕ) → CompareAlike rows ranks name value its → IfOk r (λ place. IsRowAt rows name value place))
    → ((rows : List PostingsRow) (name value : List ℕ) → CompareAlike rows ranks name value its → IfErr r (λ place. StandsAt rows name value place))
    → answer ≡ is_ok r → answer ≡ belongs row.name row.value series
belongs_found symbols row series ranks its o r answer e tells is found absent a =
    let known = row_known symbols row its o e tells in
    let alike = labels_alike symbols series.labels ranks row its is.lawful is.labels known.1 in
    a ∙ told series.labels row.name row.value r is.lawful (found (map as_row series.labels) row.name row.value alike) (absent (map as_row series.labels) row.name row.value alike) ∙ sym (not_all row.name row.value series known.0)
