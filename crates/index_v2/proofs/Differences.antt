-- The search for the least place at which postings lists are not exactly those of the series.
use Rattle.std.proofs.Common.{◌≡◌, ◌≢◌, ℕ, zero, suc, ◌+◌, ◌<◌, ◌≤◌, Bool, true, false, cond, List, [], ◌∷◌, length, zip, drop, get_or, min, Option, Some, None, Result, Ok, Err, refl, sym, ap, subst, ◌∙◌, arith, add-one, drop-cons, eqb, inl, inr}
use Rattle.std.specs.Prelude.{slice_get, is_ok, IfSome, ◌&&◌}
use Rattle.std.specs.List.{list_any, list_all}
use Rattle.std.specs.List.Sorted.{IsBinarySearchResult, IsStrictlyIncreasing, IsStrictlySortedBy}
use Rattle.std.specs.Ordering.{nat_cmp}
use Rattle.std.specs.declared.cmp.Ordering.{Ordering}
use Rattle.std.specs.declared.cmp.Ordering.TheVariants.{Less, Equal, Greater}
use Rattle.std.proofs.lemmas.Bool.{ne_eqb, eq-eqb, cases_lt}
use Rattle.std.proofs.lemmas.List.{drop_all}
use Rattle.std.proofs.lemmas.List.Sorted.{searched}
use Rattle.std.proofs.lemmas.Option.{same_Some, slice_get_within, slice_get-get_or}
use Rattle.label_sets.specs.declared.label.Label.{Label}
use Rattle.index_parts.specs.declared.postings_row.PostingsRow.{PostingsRow}
use Rattle.index_parts.specs.declared.index_series.IndexSeries.{IndexSeries}
use Rattle.index_parts.specs.Rows.{compare_rows}
use Rattle.index_parts.specs.RowOrder.{compare_row, IsRowAt, StandsAt}
use Rattle.index_v2.specs.WholeReading.{belongs, is_of_row, stray_from, gap_from, gap_of, gap_among, earlier_place, by_order}
use Rattle.std.proofs.lemmas.Cmp.{tied_itself}
use Rattle.base.proofs.Order.{Less-at_places}
use Rattle.base.proofs.Bools.{or_true, or_false}
use Rattle.base.proofs.Rising.{rise_le, rise_less}
use Rattle.index_parts.proofs.RowPlaces.{rows_total, stands_behind}
use Rattle.index_parts.proofs.RowsBegin.{same_compare}

-- ---- a number among others that ascend

-- where the search finds a number, no other place has it; where it does not, no place has it
abbrev pub TellsPlace : List ℕ → ℕ → Result ℕ ℕ → Type 0
TellsPlace numbers number (Ok place) = (place < length numbers) × (get_or numbers place 0 ≡ number) × ((k : ℕ) → k < length numbers → k ≢ place → get_or numbers k 0 ≢ number)
TellsPlace numbers number (Err place) = (k : ℕ) → k < length numbers → get_or numbers k 0 ≢ number

pub tells_place : (numbers : List ℕ) (number : ℕ) (r : Result ℕ ℕ) → IsStrictlyIncreasing numbers → IsBinarySearchResult (λ y. nat_cmp y number) numbers r → TellsPlace numbers number r
tells_place numbers number (Ok place) rising is =
    let h = searched _ _ (Ok place) is (rise_le numbers rising) in (
      h.0,
      h.1,
      λ k lt other e. elim (cases_lt k place) [
        | inl less ↦ let x = rise_less _ rising k _ less h.0 in let same = h.1 in omega arith
        | inr ge ↦ let x = rise_less numbers rising place k (omega arith) lt in let same = h.1 in omega arith
      ],
    )
tells_place numbers number (Err place) rising is =
    let h : (place ≤ length numbers) × ((k : ℕ) → k < place → get_or numbers k 0 < number) × ((k : ℕ) → place ≤ k → k < length numbers → number < get_or numbers k 0) = searched _ number (Err place) is (rise_le _ rising) in
    λ k lt e. elim (cases_lt k place) [
      | inl less ↦ let x = h.1 k less in omega arith
      | inr ge ↦ let x = h.2 k ge lt in omega arith
    ]

none_of : (number : ℕ) (P : IndexSeries → Bool) (numbers : List ℕ) (series : List IndexSeries) → ((k : ℕ) → k < length numbers → get_or numbers k 0 ≢ number) → list_any (λ (one : ℕ × IndexSeries). eqb one.0 number && P one.1) (zip numbers series) ≡ false
none_of _ P [] _ none = refl
none_of _ P (n ∷ numbers) [] none = refl
none_of number P (n ∷ numbers) (s ∷ series) none = rw (ne_eqb n number (none 0 (omega arith))) (none_of _ P numbers series (λ k lt. none (suc k) (omega arith)))

one_of : (number : ℕ) (P : IndexSeries → Bool) (numbers : List ℕ) (series : List IndexSeries) (place : ℕ) (d : IndexSeries) → length numbers ≡ length series → place < length numbers → get_or numbers place 0 ≡ number → ((k : ℕ) → k < length numbers → k ≢ place → get_or numbers k 0 ≢ number)
    → list_any (λ (one : ℕ × IndexSeries). eqb one.0 number && P one.1) (zip numbers series) ≡ P (get_or series place d)
one_of _ P [] _ _ d many lt is others = absurd (omega arith)
one_of _ P (n ∷ numbers) [] place d many lt is others = absurd (omega arith)
one_of number P (n ∷ numbers) (s ∷ series) zero d many lt is others =
    let rest = none_of _ P _ series (λ k less. others (suc k) (omega arith) (omega arith)) in
    rw (eq-eqb n number is, rest) (or_false (P s))
one_of number P (n ∷ numbers) (s ∷ series) (suc place) d many lt is others =
    rw (ne_eqb n number (others 0 (omega arith) (omega arith))) (one_of number P numbers _ _ d (omega arith) (omega arith) is (λ k less other. others (suc k) (omega arith) (omega arith)))

-- the test of a number against the listed series
pub of_row : (numbers : List ℕ) (series : List IndexSeries) (row : PostingsRow) (number place : ℕ) (one : IndexSeries) → length numbers ≡ length series → TellsPlace numbers number (Ok place) → one ≡ get_or series place one → belongs row.name row.value one ≡ is_of_row (zip numbers series) row number
of_row _ _ row _ _ _ many is at = ap (belongs row.name row.value) at ∙ sym (one_of _ _ _ _ _ _ many is.0 is.1 is.2)

pub of_no_row : (numbers : List ℕ) (series : List IndexSeries) (row : PostingsRow) (number place : ℕ) → TellsPlace numbers number (Err place) → false ≡ is_of_row (zip numbers series) row number
of_no_row _ _ _ _ _ none = sym (none_of _ _ _ _ none)

-- a number in one list
lacks : (number : ℕ) (list : List ℕ) → ((k : ℕ) → k < length list → get_or list k 0 ≢ number) → list_any (λ n. eqb n number) list ≡ false
lacks _ [] none = refl
lacks number (n ∷ list) none = rw (ne_eqb n number (none 0 (omega arith))) (lacks _ list (λ k lt. none (suc k) (omega arith)))

has : (number : ℕ) (list : List ℕ) (place : ℕ) → place < length list → get_or list place 0 ≡ number → list_any (λ n. eqb n number) list ≡ true
has _ [] _ lt is = absurd (omega arith)
has number (n ∷ list) zero lt is = rw (eq-eqb n number is) refl
has number (n ∷ list) (suc place) lt is = rw (has number list place (omega arith) is) (or_true _)

pub has_number_is : (number : ℕ) (list : List ℕ) (r : Result ℕ ℕ) (found : Bool) → IsStrictlyIncreasing list → IsBinarySearchResult (λ y. nat_cmp y number) list r → found ≡ is_ok r → found ≡ list_any (λ n. eqb n number) list
has_number_is number list (Ok place) found rising is e = let a = tells_place list _ (Ok place) rising is in e ∙ sym (has number list place a.0 a.1)
has_number_is number list (Err place) found rising is e = e ∙ sym (lacks number _ (tells_place _ number (Err place) rising is))

-- ---- the gap of a label

gap_less : (from : ℕ) (row : PostingsRow) (rows : List PostingsRow) (list : List ℕ) (lists : List (List ℕ)) (number : ℕ) (label : Label) → compare_row row label.name label.value ≡ Less → gap_from from (row ∷ rows) (list ∷ lists) number label ≡ gap_from (from + 1) rows lists number label
unfolding gap_from
gap_less _ _ _ _ _ _ _ e = rw e refl

gap_equal : (from : ℕ) (row : PostingsRow) (rows : List PostingsRow) (list : List ℕ) (lists : List (List ℕ)) (number : ℕ) (label : Label) → compare_row row label.name label.value ≡ Equal → gap_from from (row ∷ rows) (list ∷ lists) number label ≡ cond (list_any (λ n. eqb n number) list) None (Some from)
unfolding gap_from
gap_equal _ _ _ _ _ _ _ e = rw e refl

gap_greater : (from : ℕ) (row : PostingsRow) (rows : List PostingsRow) (list : List ℕ) (lists : List (List ℕ)) (number : ℕ) (label : Label) → compare_row row label.name label.value ≡ Greater → gap_from from (row ∷ rows) (list ∷ lists) number label ≡ Some from
unfolding gap_from
gap_greater _ _ _ _ _ _ _ e = rw e refl

gap_past : (from : ℕ) (lists : List (List ℕ)) (number : ℕ) (label : Label) → gap_from from [] lists number label ≡ Some from
unfolding gap_from
gap_past _ _ _ _ = refl

missing_from : (from place to : ℕ) (rows : List PostingsRow) (lists : List (List ℕ)) (number : ℕ) (label : Label) → to ≡ from + place → length rows ≡ length lists → StandsAt rows label.name label.value place → gap_from from rows lists number label ≡ Some to
missing_from _ zero _ [] _ _ _ e many stands = gap_past _ _ _ _ ∙ ap Some (omega arith)
missing_from _ (suc place) _ [] _ _ _ e many stands = let w = stands.within in absurd (omega arith)
missing_from _ _ _ (row ∷ rows) [] _ _ e many stands = absurd (omega arith)
missing_from _ zero _ (row ∷ rows) (list ∷ lists) _ _ e many stands = gap_greater _ _ _ _ _ _ _ (stands.above 0 row (omega arith) refl) ∙ ap Some (omega arith)
missing_from from (suc place) to (row ∷ rows) (list ∷ lists) number label e many stands =
    gap_less _ _ _ _ _ number label (stands.below 0 row (omega arith) refl) ∙ missing_from (from + 1) place to rows lists number label (omega arith) (omega arith) (stands_behind _ _ _ _ _ stands)

pub gap_missing : (rows : List PostingsRow) (lists : List (List ℕ)) (number place : ℕ) (name value : List ℕ) (label : Label) → name ≡ label.name → value ≡ label.value → length rows ≡ length lists → StandsAt rows name value place → Some place ≡ gap_from 0 rows lists number label
gap_missing rows _ _ place name value label n v many stands =
    let at_label : StandsAt rows label.name label.value place = rw (← n, ← v) stands in
    sym (missing_from 0 _ _ _ _ _ _ (omega arith) many at_label)

found_from : (from place to : ℕ) (rows : List PostingsRow) (lists : List (List ℕ)) (number : ℕ) (label : Label) (list : List ℕ) → to ≡ from + place → length rows ≡ length lists → ((k : ℕ) (row : PostingsRow) → k < place → slice_get rows k ≡ Some row → compare_row row label.name label.value ≡ Less) → (row : PostingsRow) → slice_get rows place ≡ Some row → compare_row row label.name label.value ≡ Equal → slice_get lists place ≡ Some list
    → gap_from from rows lists number label ≡ cond (list_any (λ n. eqb n number) list) None (Some to)
found_from _ _ _ [] _ _ _ _ e many below _ at same here = absurd cc
found_from _ _ _ (r ∷ rows) [] _ _ _ e many below _ at same here = absurd cc
found_from from zero to (r ∷ rows) (l ∷ lists) _ label _ e many below _ at same here =
    let first = same_Some r _ at in
    let is_list = same_Some l _ here in
    let is_to : from ≡ to = omega arith in
    gap_equal _ r _ l _ _ _ (ap (λ x. compare_row x label.name label.value) first ∙ same) ∙ rw (is_list, is_to) refl
found_from from (suc place) to (r ∷ rows) (l ∷ lists) number label list e many below row at same here =
    gap_less _ r _ l _ _ _ (below 0 r (omega arith) refl) ∙ found_from (from + 1) place to rows lists number label list (omega arith) (omega arith) (λ k other lt stands. below (suc k) other (omega arith) stands) _ at same here

pub gap_found : (rows : List PostingsRow) (lists : List (List ℕ)) (number place : ℕ) (name value : List ℕ) (label : Label) (list seen : List ℕ) (test : Bool) → IsStrictlySortedBy compare_rows rows → name ≡ label.name → value ≡ label.value → length rows ≡ length lists → IsRowAt rows name value place
    → list ≡ get_or lists place list → seen ≡ list → test ≡ list_any (λ n. eqb n number) seen → gap_from 0 rows lists number label ≡ cond test None (Some place)
gap_found rows lists number place name value label list seen test ascend n v many is here s e =
    let lt = slice_get_within rows place is.row is.stands in
    let row_name : is.row.name ≡ label.name = is.name_is ∙ n in
    let row_value : is.row.value ≡ label.value = is.value_is ∙ v in
    let equal : compare_row is.row label.name label.value ≡ Equal = same_compare is.row is.row label.name label.value row_name row_value ∙ tied_itself rows_total is.row in
    let below : (k : ℕ) (row : PostingsRow) → k < place → slice_get rows k ≡ Some row → compare_row row label.name label.value ≡ Less = λ k row less at. same_compare row is.row label.name label.value row_name row_value ∙ Less-at_places compare_rows rows k place row is.row ascend less at is.stands in
    let list_is : slice_get lists place ≡ Some list = slice_get-get_or lists place list (omega arith) ∙ ap Some (sym here) in
    found_from 0 place place rows lists number label list (omega arith) many below is.row is.stands equal list_is
    ∙ ap (λ (b : Bool). cond b None (Some place)) (ap (list_any (λ n. eqb n number)) (sym s) ∙ sym e)

-- ---- the least of several places

earlier_place-none : (a : Option ℕ) → earlier_place a None ≡ a
earlier_place-none None = refl
earlier_place-none (Some a) = refl

least_of_three : (a b c : ℕ) → min (min a b) c ≡ min a (min b c)
least_of_three a b c = omega arith

earlier_place-assoc : (a b c : Option ℕ) → earlier_place (earlier_place a b) c ≡ earlier_place a (earlier_place b c)
earlier_place-assoc None b c = refl
earlier_place-assoc (Some a) None c = refl
earlier_place-assoc (Some a) (Some b) None = refl
earlier_place-assoc (Some a) (Some b) (Some c) = ap Some (least_of_three a b c)

pub record GapsSoFar (rows : List PostingsRow) (lists : List (List ℕ)) (number : ℕ) (labels : List Label) (place : ℕ) (least : Option ℕ) : Type 0 where
  pub whole : gap_of rows lists number labels ≡ earlier_place least (gap_of rows lists number (drop place labels))

pub gaps_start : (rows : List PostingsRow) (lists : List (List ℕ)) (number : ℕ) (labels : List Label) → GapsSoFar rows lists number labels 0 None
gaps_start _ _ _ _ = record { whole = refl }

gap_of_more : (rows : List PostingsRow) (lists : List (List ℕ)) (number : ℕ) (label : Label) (labels : List Label) → gap_of rows lists number (label ∷ labels) ≡ earlier_place (gap_from 0 rows lists number label) (gap_of rows lists number labels)
unfolding gap_of
gap_of_more _ _ _ _ _ = refl

no_gap_of : (rows : List PostingsRow) (lists : List (List ℕ)) (number : ℕ) → gap_of rows lists number [] ≡ None
unfolding gap_of
no_gap_of _ _ _ = refl

pub gaps_step : (rows : List PostingsRow) (lists : List (List ℕ)) (number : ℕ) (labels : List Label) (place : ℕ) (label : Label) (least here new : Option ℕ) → GapsSoFar rows lists number labels place least → place < length labels → label ≡ get_or labels place label → here ≡ gap_from 0 rows lists number label → new ≡ earlier_place least here → GapsSoFar rows lists number labels (place + 1) new
gaps_step rows lists number labels place label least _ _ far lt at h e =
    let front : drop place labels ≡ label ∷ drop (place + 1) labels = rw add-one (drop-cons _ _ _ lt ∙ ap (λ x. x ∷ drop (suc place) labels) (sym at)) in
    rw (e, h) (record {
      whole = far.whole ∙ ap (λ xs. earlier_place least (gap_of rows lists number xs)) front ∙ ap (earlier_place least) (gap_of_more _ _ _ _ _) ∙ sym (earlier_place-assoc least (gap_from 0 rows lists number label) (gap_of rows lists number (drop (place + 1) labels)));
    })

pub gaps_end : (rows : List PostingsRow) (lists : List (List ℕ)) (number : ℕ) (labels : List Label) (place : ℕ) (least : Option ℕ) → GapsSoFar rows lists number labels place least → length labels ≤ place → least ≡ gap_of rows lists number labels
gaps_end rows lists number _ _ least far le = sym (far.whole ∙ ap (λ xs. earlier_place least (gap_of rows lists number xs)) (drop_all _ _ le) ∙ ap (earlier_place least) (no_gap_of _ _ _) ∙ earlier_place-none _)

pub record GapSoFar (rows : List PostingsRow) (lists : List (List ℕ)) (numbers : List ℕ) (series : List IndexSeries) (place : ℕ) (least : Option ℕ) : Type 0 where
  pub whole : gap_among rows lists (zip numbers series) ≡ earlier_place least (gap_among rows lists (zip (drop place numbers) (drop place series)))

pub gap_start : (rows : List PostingsRow) (lists : List (List ℕ)) (numbers : List ℕ) (series : List IndexSeries) → GapSoFar rows lists numbers series 0 None
gap_start _ _ _ _ = record { whole = refl }

gap_among_more : (rows : List PostingsRow) (lists : List (List ℕ)) (number : ℕ) (one : IndexSeries) (numbers : List ℕ) (series : List IndexSeries) → gap_among rows lists (zip (number ∷ numbers) (one ∷ series)) ≡ earlier_place (gap_of rows lists number one.labels) (gap_among rows lists (zip numbers series))
unfolding gap_among
gap_among_more _ _ _ _ _ _ = refl

no_gap_among : (rows : List PostingsRow) (lists : List (List ℕ)) (series : List IndexSeries) → gap_among rows lists (zip [] series) ≡ None
unfolding gap_among
no_gap_among _ _ _ = refl

pub gap_step : (rows : List PostingsRow) (lists : List (List ℕ)) (numbers : List ℕ) (series : List IndexSeries) (place number : ℕ) (one : IndexSeries) (labels : List Label) (least here new : Option ℕ)
    → GapSoFar rows lists numbers series place least → length numbers ≡ length series → place < length numbers → number ≡ get_or numbers place 0 → one ≡ get_or series place one → labels ≡ one.labels → here ≡ gap_of rows lists number labels → new ≡ earlier_place least here → GapSoFar rows lists numbers series (place + 1) new
gap_step rows lists numbers series place number one labels least _ _ far many lt n at l h e =
    let numbers_front : drop place numbers ≡ number ∷ drop (place + 1) numbers = rw (add-one, n) (drop-cons _ _ 0 lt) in
    let series_front : drop place series ≡ one ∷ drop (place + 1) series = rw add-one (drop-cons series place one (omega arith) ∙ ap (λ (x : IndexSeries). x ∷ drop (suc place) series) (sym at)) in
    let front : gap_among rows lists (zip (drop place numbers) (drop place series)) ≡ earlier_place (gap_of rows lists number one.labels) (gap_among rows lists (zip (drop (place + 1) numbers) (drop (place + 1) series))) = rw (numbers_front, series_front) (gap_among_more _ _ _ _ _ _) in
    let here_is = h ∙ ap (gap_of rows lists number) l in
    rw (e, here_is) (record {
      whole = far.whole ∙ ap (earlier_place least) front ∙ sym (earlier_place-assoc least (gap_of rows lists number one.labels) (gap_among rows lists (zip (drop (place + 1) numbers) (drop (place + 1) series))));
    })

pub gap_end : (rows : List PostingsRow) (lists : List (List ℕ)) (numbers : List ℕ) (series : List IndexSeries) (place : ℕ) (least : Option ℕ) → GapSoFar rows lists numbers series place least → length numbers ≤ place → least ≡ gap_among rows lists (zip numbers series)
gap_end rows lists _ series place least far le = sym (far.whole ∙ ap (λ xs. earlier_place least (gap_among rows lists (zip xs (drop place series)))) (drop_all _ _ le) ∙ ap (earlier_place least) (no_gap_among _ _ (drop place series)) ∙ earlier_place-none _)

-- ---- no place lies past the rows

abbrev pub IsWithin : ℕ → Option ℕ → Type 0
IsWithin most None = Unit {0}
IsWithin most (Some place) = place ≤ most

earlier_within : (most : ℕ) (a b : Option ℕ) → IsWithin most a → IsWithin most b → IsWithin most (earlier_place a b)
earlier_within _ None b p q = q
earlier_within _ (Some a) None p q = p
earlier_within _ (Some a) (Some b) p q = omega arith

by_test : (b : Bool) (most : ℕ) (x y : Option ℕ) → IsWithin most x → IsWithin most y → IsWithin most (cond b x y)
by_test true _ x y p q = p
by_test false _ x y p q = q

by_orders : (most : ℕ) (o : Ordering) (x y z : Option ℕ) → IsWithin most x → IsWithin most y → IsWithin most z → IsWithin most (by_order o x y z)
by_orders _ Less x y z p q r = p
by_orders _ Equal x y z p q r = q
by_orders _ Greater x y z p q r = r

place_le : (place more most : ℕ) → place + suc more ≤ most → place ≤ most
place_le _ _ _ le = omega arith

stray_within : (most place : ℕ) (rows : List PostingsRow) (lists : List (List ℕ)) (listed : List (ℕ × IndexSeries)) → place + length rows ≤ most → IsWithin most (stray_from place rows lists listed)
unfolding stray_from
stray_within _ _ [] _ _ le = tt
stray_within _ _ (row ∷ rows) [] _ le = tt
stray_within most place (row ∷ rows) (list ∷ lists) listed le = by_test (list_all (is_of_row listed row) list) _ _ (Some place) (stray_within most (place + 1) rows lists listed (omega arith)) (place_le _ _ _ le)

gap_within : (most place : ℕ) (rows : List PostingsRow) (lists : List (List ℕ)) (number : ℕ) (label : Label) → place + length rows ≤ most → IsWithin most (gap_from place rows lists number label)
unfolding gap_from
gap_within _ _ [] _ _ _ le = omega arith
gap_within _ _ (row ∷ rows) [] _ _ le = omega arith
gap_within most place (row ∷ rows) (list ∷ lists) number label le =
    by_orders _ (compare_row row label.name label.value) _ _ (Some place) (gap_within most (place + 1) rows lists number label (omega arith)) (by_test (list_any (λ n. eqb n number) list) _ None (Some place) tt (place_le _ _ _ le)) (place_le _ _ _ le)

gap_of_within : (most : ℕ) (rows : List PostingsRow) (lists : List (List ℕ)) (number : ℕ) (labels : List Label) → length rows ≤ most → IsWithin most (gap_of rows lists number labels)
unfolding gap_of
gap_of_within most rows lists number [] le = tt
gap_of_within most rows lists number (label ∷ labels) le = earlier_within _ _ _ (gap_within most 0 rows lists number label (omega arith)) (gap_of_within most rows lists number labels le)

gap_among_within : (most : ℕ) (rows : List PostingsRow) (lists : List (List ℕ)) (listed : List (ℕ × IndexSeries)) → length rows ≤ most → IsWithin most (gap_among rows lists listed)
unfolding gap_among
gap_among_within _ _ _ [] le = tt
gap_among_within most rows lists (one ∷ listed) le = earlier_within _ _ _ (gap_of_within _ _ lists one.0 one.1.labels le) (gap_among_within most rows lists listed le)

if_within : (most : ℕ) (o : Option ℕ) → IsWithin most o → IfSome o (λ place. place ≤ most)
if_within _ None w = tt
if_within _ (Some place) w = w

pub difference_within : (rows : List PostingsRow) (lists : List (List ℕ)) (listed : List (ℕ × IndexSeries)) (result : Option ℕ) → result ≡ earlier_place (stray_from 0 rows lists listed) (gap_among rows lists listed) → IfSome result (λ place. place ≤ length rows)
difference_within rows lists listed result e =
    if_within (length rows) _ (subst (IsWithin (length rows)) (sym e) (earlier_within _ _ _ (stray_within _ 0 _ _ _ (omega arith)) (gap_among_within _ _ _ _ (omega arith))))
