-- The parts of reading a whole index, each against what it says of its members.
use Rattle.std.proofs.Common.{◌≡◌, ℕ, zero, suc, ◌+◌, true, ◌<◌, get_or, List, [], ◌∷◌, length, zip, Option, Some, None, Ok, refl, sym, ap, subst, ◌∙◌, arith}
use Rattle.std.specs.Prelude.{slice_get}
use Rattle.std.specs.List.{AllByRecursion, Contains}
use Rattle.std.specs.List.Sorted.{IsStrictlySortedBy}
use Rattle.std.specs.declared.cmp.Ordering.{Ordering}
use Rattle.std.specs.declared.cmp.Ordering.TheVariants.{Less, Equal, Greater}
use Rattle.std.proofs.lemmas.Option.{same_Some}
use Rattle.base.proofs.Lists.{AllByRecursion-weaker}
use Rattle.base.proofs.Membership.{contains_first, contains_later, place_of_member}
use Rattle.base.proofs.Bools.{Less-from_is_lt, is_lt-from_Less, and_first, and_second}
use Rattle.base.proofs.Binds.{bind_ok, unless_ok, refused_as_ok, ok_is}
use Rattle.label_sets.specs.declared.label.Label.{Label}
use Rattle.index_parts.specs.declared.postings_row.PostingsRow.{PostingsRow}
use Rattle.index_parts.specs.PostingsReading.{postings_at}
use Rattle.index_parts.specs.declared.index_series.IndexSeries.{IndexSeries}
use Rattle.index_parts.specs.IndexFile.{compare_series}
use Rattle.index_parts.specs.Parts.{file}
use Rattle.index_parts.proofs.SeriesOrder.{series_total}
use Rattle.index_v2.specs.declared.refusal.IndexRefusal.{IndexRefusal}
use Rattle.index_v2.specs.SeriesLabels.{numbered_at}
use Rattle.index_parts.specs.RowOrder.{compare_row}
use Rattle.index_v2.specs.WholeReading.{stands_behind, may_stand_behind, behind_at, all_at, lists_at, gap_from, gap_of, gap_among, earlier_place, by_order}

-- ---- the series in order

-- each series is behind the one before them all, if there is one
abbrev pub AreBehind : Option IndexSeries → List IndexSeries → Type 0
AreBehind None list = Unit {0}
AreBehind (Some before) list = AllByRecursion (λ one. compare_series before one ≡ Less) list

none_behind : (before : Option IndexSeries) → AreBehind before []
none_behind None = tt
none_behind (Some b) = tt

stands_found : (before : Option IndexSeries) (one : IndexSeries) (list : List IndexSeries) → may_stand_behind before one ≡ true → AreBehind (Some one) list → AreBehind before (one ∷ list)
stands_found None _ _ e others = tt
stands_found (Some b) one _ e others = let less = Less-from_is_lt _ e in (less, AllByRecursion-weaker _ _ (λ x behind. series_total.trans b one x less behind) _ others)

stands_again : (before : Option IndexSeries) (one : IndexSeries) (list : List IndexSeries) → AreBehind before (one ∷ list) → may_stand_behind before one ≡ true
stands_again None _ _ h = refl
stands_again (Some b) _ _ h = is_lt-from_Less _ h.0

in_order : (one : IndexSeries) (list : List IndexSeries) → AreBehind (Some one) list → IsStrictlySortedBy compare_series list → IsStrictlySortedBy compare_series (one ∷ list)
unfolding IsStrictlySortedBy
in_order _ _ behind others = (behind, others)

order_parts : (one : IndexSeries) (list : List IndexSeries) → IsStrictlySortedBy compare_series (one ∷ list) → AreBehind (Some one) list × IsStrictlySortedBy compare_series list
unfolding IsStrictlySortedBy
order_parts _ _ sorted = sorted

none_sorted : IsStrictlySortedBy compare_series []
unfolding IsStrictlySortedBy
none_sorted = tt

-- each number's series stands behind that of the number before it
abbrev pub AreApart : List ℕ → Option ℕ → List ℕ → Type 0
AreApart index last [] = Unit {0}
AreApart index last (number ∷ numbers) = (stands_behind index last number ≡ true) × AreApart index (Some number) numbers

module _ (index : List ℕ) (symbols : List (List ℕ)) where
  -- so many series, each that of its number, apart and ascending
  pub record AreRead (last : Option ℕ) (before : Option IndexSeries) (numbers : List ℕ) (list : List IndexSeries) : Type 0 where
    pub many : length numbers ≡ length list
    pub each : (number : ℕ) (one : IndexSeries) → Contains (zip numbers list) (number, one) → numbered_at index symbols number ≡ Ok one
    pub apart : AreApart index last numbers
    pub behind : AreBehind before list
    pub ascend : IsStrictlySortedBy compare_series list

  behind_parts : (last : Option ℕ) (before : Option IndexSeries) (number : ℕ) (one : IndexSeries) → behind_at index symbols last before number ≡ Ok one → (numbered_at index symbols number ≡ Ok one) × (stands_behind index last number ≡ true) × (may_stand_behind before one ≡ true)
  unfolding behind_at
  behind_parts last before number _ e =
      let read = bind_ok _ _ _ e in
      let test = unless_ok _ _ _ _ read.2 in
      let same = ok_is {E = IndexRefusal} _ _ test.1 in
      (read.1 ∙ ap Ok same, and_first (stands_behind index last number) (may_stand_behind before read.0) test.0, ap (may_stand_behind before) (sym same) ∙ and_second (stands_behind index last number) (may_stand_behind before read.0) test.0)

  behind_again : (last : Option ℕ) (before : Option IndexSeries) (number : ℕ) (one : IndexSeries) → numbered_at index symbols number ≡ Ok one → stands_behind index last number ≡ true → may_stand_behind before one ≡ true → behind_at index symbols last before number ≡ Ok one
  unfolding behind_at
  behind_again _ _ _ _ e apart test = rw (e, apart, test) refl

  first_or_other : (number : ℕ) (numbers : List ℕ) (first : IndexSeries) (others : List IndexSeries) → numbered_at index symbols number ≡ Ok first → ((n : ℕ) (one : IndexSeries) → Contains (zip numbers others) (n, one) → numbered_at index symbols n ≡ Ok one)
      → (n : ℕ) (one : IndexSeries) (place : ℕ) → place < length (zip (number ∷ numbers) (first ∷ others)) → get_or (zip (number ∷ numbers) (first ∷ others)) place (n, one) ≡ (n, one) → numbered_at index symbols n ≡ Ok one
  first_or_other _ _ _ _ e each n _ zero lt same =
      ap (λ p. numbered_at index symbols p.0) (sym same) ∙ e ∙ ap (λ p. Ok p.1) same
  first_or_other _ _ _ _ e each n one (suc place) lt at = each n one (place, omega arith, at)

  all_parts : (last : Option ℕ) (before : Option IndexSeries) (number : ℕ) (numbers : List ℕ) (list : List IndexSeries) → all_at index symbols last before (number ∷ numbers) ≡ Ok list → (one : IndexSeries) × (others : List IndexSeries) × (behind_at index symbols last before number ≡ Ok one) × (all_at index symbols (Some number) (Some one) numbers ≡ Ok others) × (one ∷ others ≡ list)
  unfolding all_at
  all_parts _ _ _ _ _ e =
      let first = bind_ok _ _ _ e in
      let others = bind_ok _ _ _ first.2 in
      (first.0, others.0, first.1, others.1, ok_is {A = List IndexSeries} {E = IndexRefusal} _ _ others.2)

  all_none : (last : Option ℕ) (before : Option IndexSeries) (list : List IndexSeries) → all_at index symbols last before [] ≡ Ok list → [] ≡ list
  unfolding all_at
  all_none _ _ _ e = ok_is {A = List IndexSeries} {E = IndexRefusal} _ _ e

  pub all_found : (last : Option ℕ) (before : Option IndexSeries) (numbers : List ℕ) (list : List IndexSeries) → all_at index symbols last before numbers ≡ Ok list → AreRead last before numbers list
  all_found last before [] _ e = subst (AreRead last before []) (all_none _ _ _ e) (record { many = refl; each = λ number one has. absurd (omega arith); apart = tt; behind = none_behind _; ascend = none_sorted })
  all_found last before (number ∷ numbers) _ e =
      let p = all_parts _ _ _ _ _ e in
      let here = behind_parts _ _ _ _ p.2 in
      let others = all_found (Some number) (Some p.0) numbers _ p.3 in
      subst (AreRead last before (number ∷ numbers)) p.4 (record {
        many = ap suc others.many;
        each = λ n one has. first_or_other number numbers p.0 p.1 here.0 others.each n one has.0 has.1 has.2;
        apart = (here.1, others.apart);
        behind = stands_found _ _ _ here.2 others.behind;
        ascend = in_order _ _ others.behind others.ascend;
      })

  all_joined : (last : Option ℕ) (before : Option IndexSeries) (number : ℕ) (numbers : List ℕ) (one : IndexSeries) (list : List IndexSeries) → behind_at index symbols last before number ≡ Ok one → all_at index symbols (Some number) (Some one) numbers ≡ Ok list → all_at index symbols last before (number ∷ numbers) ≡ Ok (one ∷ list)
  unfolding all_at
  all_joined _ _ _ _ _ _ e f = rw (e, f) refl

  all_nothing : (last : Option ℕ) (before : Option IndexSeries) → all_at index symbols last before [] ≡ Ok []
  unfolding all_at
  all_nothing _ _ = refl

  pub all_again : (last : Option ℕ) (before : Option IndexSeries) (numbers : List ℕ) (list : List IndexSeries) → AreRead last before numbers list → all_at index symbols last before numbers ≡ Ok list
  all_again _ _ [] [] are = all_nothing _ _
  all_again _ _ [] (one ∷ list) are = let m = are.many in absurd (omega arith)
  all_again _ _ (number ∷ numbers) [] are = let m = are.many in absurd (omega arith)
  all_again _ _ (number ∷ numbers) (one ∷ list) are =
      let m = are.many in
      let order = order_parts _ _ are.ascend in
      all_joined _ _ _ _ _ _ (behind_again _ _ _ _ (are.each number one (contains_first _ _)) are.apart.0 (stands_again _ _ _ are.behind))
      (all_again _ _ _ _ (record { many = omega arith; each = λ n o has. are.each n o (contains_later _ _ _ has); apart = are.apart.1; behind = order.0; ascend = order.1 }))

-- ---- the lists

module _ (index : List ℕ) where
  -- each row's list
  pub record AreLists (rows : List PostingsRow) (lists : List (List ℕ)) : Type 0 where
    pub many : length rows ≡ length lists
    pub each : (place : ℕ) (row : PostingsRow) → slice_get rows place ≡ Some row → (list : List ℕ) × (slice_get lists place ≡ Some list) × (postings_at index row.offset ≡ Ok list)

  list_or_other : (row : PostingsRow) (rows : List PostingsRow) (list : List ℕ) (lists : List (List ℕ)) → postings_at index row.offset ≡ Ok list → AreLists rows lists → (place : ℕ) (one : PostingsRow) → slice_get (row ∷ rows) place ≡ Some one → (found : List ℕ) × (slice_get (list ∷ lists) place ≡ Some found) × (postings_at index one.offset ≡ Ok found)
  list_or_other _ _ list _ e are zero _ at = (list, refl, ap (λ r. postings_at index r.offset) (sym (same_Some _ _ at)) ∙ e)
  list_or_other _ _ _ _ e are (suc place) one at = are.each place one at

  lists_parts : (row : PostingsRow) (rows : List PostingsRow) (lists : List (List ℕ)) → lists_at (file index) (row ∷ rows) ≡ Ok lists → (list : List ℕ) × (others : List (List ℕ)) × (postings_at index row.offset ≡ Ok list) × (lists_at (file index) rows ≡ Ok others) × (list ∷ others ≡ lists)
  unfolding lists_at
  lists_parts _ _ _ e =
      let first = bind_ok _ _ _ e in
      let others = bind_ok _ _ _ first.2 in
      (first.0, others.0, refused_as_ok _ _ _ first.1, others.1, ok_is {A = List (List ℕ)} {E = IndexRefusal} _ _ others.2)

  lists_none : (lists : List (List ℕ)) → lists_at (file index) [] ≡ Ok lists → [] ≡ lists
  unfolding lists_at
  lists_none _ e = ok_is {A = List (List ℕ)} {E = IndexRefusal} _ _ e

  pub lists_found : (rows : List PostingsRow) (lists : List (List ℕ)) → lists_at (file index) rows ≡ Ok lists → AreLists rows lists
  lists_found [] _ e = subst (AreLists []) (lists_none _ e) (record { many = refl; each = λ place row at. absurd cc })
  lists_found (row ∷ rows) lists e =
      let p = lists_parts _ _ _ e in
      let others = lists_found rows _ p.3 in
      subst (AreLists (row ∷ rows)) p.4 (record { many = ap suc others.many; each = list_or_other _ _ _ _ p.2 others })

  lists_joined : (row : PostingsRow) (rows : List PostingsRow) (list : List ℕ) (lists : List (List ℕ)) → postings_at index row.offset ≡ Ok list → lists_at (file index) rows ≡ Ok lists → lists_at (file index) (row ∷ rows) ≡ Ok (list ∷ lists)
  unfolding lists_at
  lists_joined _ _ _ _ e f = rw (e, f) refl

  lists_nothing : lists_at (file index) [] ≡ Ok []
  unfolding lists_at
  lists_nothing = refl

  pub lists_again : (rows : List PostingsRow) → ((row : PostingsRow) → Contains rows row → (list : List ℕ) × (postings_at index row.offset ≡ Ok list)) → (lists : List (List ℕ)) × (lists_at (file index) rows ≡ Ok lists)
  lists_again [] each = ([], lists_nothing)
  lists_again (row ∷ rows) each =
      let first = each row (contains_first _ _) in
      let others = lists_again _ (λ one has. each one (contains_later _ _ _ has)) in
      (first.0 ∷ others.0, lists_joined _ _ _ _ first.1 others.1)

-- ---- without a gap

pub both_none : (a b : Option ℕ) → earlier_place a b ≡ None → (a ≡ None) × (b ≡ None)
both_none None b e = (refl, e)
both_none (Some a) None e = absurd cc
both_none (Some a) (Some b) e = absurd cc

-- the row of a label
abbrev pub HasPlace : List PostingsRow → Label → Type 0
HasPlace rows label = (place : ℕ) × (row : PostingsRow) × (slice_get rows place ≡ Some row) × (compare_row row label.name label.value ≡ Equal)

by_order_none : {P : Type 0} (o : Ordering) (next here : Option ℕ) (place : ℕ) → by_order o next here (Some place) ≡ None → (next ≡ None → P) → (o ≡ Equal → P) → P
by_order_none Less _ _ _ e f g = f e
by_order_none Equal _ _ _ e f g = g refl
by_order_none Greater _ _ _ e f g = absurd cc

gap_from_found : (from : ℕ) (rows : List PostingsRow) (lists : List (List ℕ)) (number : ℕ) (label : Label) → gap_from from rows lists number label ≡ None → HasPlace rows label
unfolding gap_from
gap_from_found _ [] _ _ _ e = absurd cc
gap_from_found _ (r ∷ rows) [] _ _ e = absurd cc
gap_from_found from (r ∷ rows) (l ∷ lists) _ label e =
    by_order_none _ _ _ _ e
    (λ next. let further = gap_from_found (from + 1) rows lists _ _ next in (suc further.0, further.1, further.2, further.3))
    (λ equal. (0, r, refl, equal))

module _ (rows : List PostingsRow) (lists : List (List ℕ)) where
  gap_of_found : (number : ℕ) (labels : List Label) → gap_of rows lists number labels ≡ None → (place : ℕ) (label : Label) → slice_get labels place ≡ Some label → gap_from 0 rows lists number label ≡ None
  unfolding gap_of
  gap_of_found _ [] e _ _ at = absurd cc
  gap_of_found number (l ∷ labels) e zero _ at = ap (gap_from 0 rows lists number) (sym (same_Some l _ at)) ∙ (both_none _ _ e).0
  gap_of_found number (l ∷ labels) e (suc place) label at = gap_of_found number labels (both_none (gap_from 0 rows lists number l) _ e).1 _ _ at

  gap_among_found : (listed : List (ℕ × IndexSeries)) → gap_among rows lists listed ≡ None → (place : ℕ) (one : ℕ × IndexSeries) → slice_get listed place ≡ Some one → gap_of rows lists one.0 one.1.labels ≡ None
  unfolding gap_among
  gap_among_found [] e _ _ at = absurd cc
  gap_among_found (o ∷ listed) e zero _ at = ap (λ x. gap_of rows lists x.0 x.1.labels) (sym (same_Some o _ at)) ∙ (both_none _ _ e).0
  gap_among_found (o ∷ listed) e (suc place) one at = gap_among_found listed (both_none _ _ e).1 _ _ at

  pub gaps_found : (listed : List (ℕ × IndexSeries)) → gap_among rows lists listed ≡ None → (number : ℕ) (series : IndexSeries) → Contains listed (number, series) → (label : Label) → Contains series.labels label → HasPlace rows label
  gaps_found _ e _ _ has _ labelled =
      gap_from_found 0 _ _ _ _
      (let one = place_of_member _ _ has in
      let its = place_of_member _ _ labelled in
      gap_of_found _ _ (gap_among_found _ e _ _ one.1) _ _ its.1)
