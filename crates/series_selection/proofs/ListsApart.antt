-- In an index of a list of series, the lists of the rows of one name share no number.
use Rattle.std.proofs.Common.{◌≡◌, ℕ, suc, ◌≤◌, Bool, true, false, List, [], ◌∷◌, length, map, Some, Ok, refl, sym, ap, subst, ◌∙◌, arith}
use Rattle.std.specs.Prelude.{is_some, if◌then◌else◌}
use Rattle.std.specs.List.{Contains, filter}
use Rattle.std.specs.List.Sorted.{IsStrictlyIncreasing, IsStrictlySortedBy}
use Rattle.std.specs.declared.cmp.Ordering.TheVariants.{Less, Equal}
use Rattle.std.proofs.lemmas.Cmp.{tied_itself}
use Rattle.std.proofs.lemmas.Map.Keys.{sorted_tail}
use Rattle.std.proofs.lemmas.List.{length-map}
use Rattle.std.proofs.lemmas.List.Kept.{IsStrictlySortedBy-filter}
use Rattle.base.proofs.Order.{Less-at_places}
use Rattle.base.proofs.Membership.{contains_first, contains_later, into_map, place_of_member, of_filter, member_passes}
use Rattle.base.specs.Reading.{refused_as}
use Rattle.base.proofs.Binds.{ok_is}
use Rattle.label_sets.specs.declared.label.Label.{Label}
use Rattle.label_sets.specs.Labels.{value_of}
use Rattle.matchers.specs.declared.matcher.Matcher.{Matcher}
use Rattle.index_parts.specs.declared.postings_row.PostingsRow.{PostingsRow}
use Rattle.index_parts.specs.Postings.{IsNextPosting}
use Rattle.index_parts.specs.PostingsReading.{posting_at}
use Rattle.index_parts.specs.Rows.{compare_rows}
use Rattle.index_parts.proofs.ListLaws.{list_again}
use Rattle.index_parts.proofs.PostingsLaws.{posting_turn}
use Rattle.index_parts.specs.Parts.{file}
use Rattle.index_parts.specs.declared.index_series.IndexSeries.{IndexSeries}
use Rattle.index_parts.specs.IndexFile.{IsIndex}
use Rattle.index_v2.specs.declared.refusal.IndexRefusal.{IndexRefusal}
use Rattle.index_v2.specs.Opening.{refused_in}
use Rattle.index_v2.specs.PostingsLists.{list_of}
use Rattle.index_parts.proofs.RowPlaces.{rows_total}
use Rattle.index_v2.proofs.Apart.{AreApart, fewer, apart_append, rising_apart}
use Rattle.index_v2.proofs.RowsHeld.{held_ascends}
use Rattle.index_v2.proofs.ListNumbers.{numbers_rise}
use Rattle.series_selection.specs.Selections.{HasNumber, decides, deciding}
use Rattle.series_selection.specs.SelectionSteps.{numbers_at}
use Rattle.series_selection.proofs.NumbersRead.{first_read, numbers_none, of_numbers}
use Rattle.series_selection.proofs.Walk.{ok_same}
use Rattle.series_selection.proofs.Matching.{Stands, first_of, row_has, row_value}
use Rattle.series_selection.proofs.Taking.{decides_name}

-- ---- rows

same_key : (one other : PostingsRow) → compare_rows one other ≡ Less → one.name ≡ other.name → one.value ≡ other.value → ⊥
same_key one other less n v =
    let same : compare_rows one other ≡ compare_rows one one = rw (← n, ← v) refl in
    let tied : compare_rows one one ≡ Equal = tied_itself rows_total one in
    let both : Less ≡ Equal = sym less ∙ same ∙ tied in
    cc

first_below : (row : PostingsRow) (rows : List PostingsRow) (other : PostingsRow) → IsStrictlySortedBy compare_rows (row ∷ rows) → Contains rows other → compare_rows row other ≡ Less
first_below row rows other ascend among =
    let at = place_of_member rows other among in
    Less-at_places compare_rows (row ∷ rows) 0 (suc at.0) row other ascend (omega arith) refl at.1

module _ (bytes : List ℕ) (list : List IndexSeries) (is : IsIndex bytes list) (m : Matcher) where
  numbered : (row : PostingsRow) (read : List ℕ) (number : ℕ) → Contains is.opened.rows row → list_of (file is.opened.bytes) (Some row) ≡ Ok read → Contains read number → HasNumber (Stands is.opened.bytes) row number
  numbered row read number among one has =
      let exact = is.rows_are row among in
      let same : read ≡ exact.numbers = ok_same read exact.numbers (list_of (file is.opened.bytes) (Some row)) one (ap (refused_as (refused_in 5)) (list_again IsNextPosting posting_at posting_turn is.opened.bytes row.offset exact.numbers exact.stands)) in
      record { numbers = exact.numbers; list_is = exact.stands; has = subst (λ (xs : List ℕ). Contains xs number) same has }

  rises : (row : PostingsRow) (read : List ℕ) → Contains is.opened.rows row → list_of (file is.opened.bytes) (Some row) ≡ Ok read → IsStrictlyIncreasing read
  rises row read among one =
      let exact = is.rows_are row among in
      let same : read ≡ exact.numbers = ok_same read exact.numbers (list_of (file is.opened.bytes) (Some row)) one (ap (refused_as (refused_in 5)) (list_again IsNextPosting posting_at posting_turn is.opened.bytes row.offset exact.numbers exact.stands)) in
      subst IsStrictlyIncreasing (sym same) (numbers_rise is.opened.bytes row.offset exact.numbers exact.stands)

  same_value : (one other : PostingsRow) (number : ℕ) → Contains is.opened.rows one → Contains is.opened.rows other → one.name ≡ m.name → other.name ≡ m.name → HasNumber (Stands is.opened.bytes) one number → HasNumber (Stands is.opened.bytes) other number → one.value ≡ other.value
  same_value one other number a b n k here there =
      let s = row_has bytes list is one number a here in
      row_value bytes list is number s.0 s.1 m one a n here ∙ sym (row_value bytes list is number s.0 s.1 m other b k there)

  lists_apart : (rows : List PostingsRow) (numbers : List ℕ) → IsStrictlySortedBy compare_rows rows → ((row : PostingsRow) → Contains rows row → Contains is.opened.rows row) → ((row : PostingsRow) → Contains rows row → row.name ≡ m.name) → numbers_at (file is.opened.bytes) rows ≡ Ok numbers → AreApart numbers
  lists_apart [] numbers ascend among named e = subst AreApart (ok_is {E = IndexRefusal} _ _ (sym (numbers_none (file is.opened.bytes)) ∙ e)) (rising_apart [] (λ k lt. absurd (omega arith)))
  lists_apart (row ∷ rows) numbers ascend among named e =
      let f = first_read (file is.opened.bytes) row rows numbers e in
      let here = among row (contains_first row rows) in
      let others = lists_apart rows f.others (sorted_tail compare_rows row rows ascend) (λ one has. among one (contains_later row one rows has)) (λ one has. named one (contains_later row one rows has)) f.others_are in
      let none : (n : ℕ) → Contains f.list n → Contains f.others n → ⊥ = λ n a b.
      let o = of_numbers (file is.opened.bytes) rows f.others n f.others_are b in
      let there = among o.0 (contains_later row o.0 rows o.1) in
      let value = same_value row o.0 n here there (named row (contains_first row rows)) (named o.0 (contains_later row o.0 rows o.1)) (numbered row f.list n here f.list_is a) (numbered o.0 o.2.0 n there o.2.1 o.2.2) in
      same_key row o.0 (first_below row rows o.0 ascend o.1) (named row (contains_first row rows) ∙ sym (named o.0 (contains_later row o.0 rows o.1))) value in
      subst AreApart (sym f.numbers_are) (apart_append f.list f.others (rising_apart f.list (rises row f.list here f.list_is)) others none)

  all_listed : (rows : List PostingsRow) (numbers : List ℕ) → ((row : PostingsRow) → Contains rows row → Contains is.opened.rows row) → numbers_at (file is.opened.bytes) rows ≡ Ok numbers → (n : ℕ) → Contains numbers n → Contains (map first_of is.listed) n
  all_listed rows numbers among e n has =
      let o = of_numbers (file is.opened.bytes) rows numbers n e has in
      let s = row_has bytes list is o.0 n (among o.0 o.1) (numbered o.0 o.2.0 n (among o.0 o.1) o.2.1 o.2.2) in
      into_map first_of is.listed (n, s.0) s.1

  by_rows : (rows : List PostingsRow) → IsStrictlySortedBy compare_rows rows → ((row : PostingsRow) → Contains rows row → Contains is.opened.rows row) → ((row : PostingsRow) → Contains rows row → row.name ≡ m.name) → (numbers : List ℕ) → numbers_at (file is.opened.bytes) rows ≡ Ok numbers → length numbers ≤ length is.listed
  by_rows rows ascend among named numbers e =
      let few = fewer numbers (map first_of is.listed) (lists_apart rows numbers ascend among named e) (all_listed rows numbers among e) in
      omega (arith, few, length-map is.listed first_of)

  by_choice : (external : Bool) (numbers : List ℕ) → numbers_at (file is.opened.bytes) (if external then [] else filter (decides m) is.opened.rows) ≡ Ok numbers → length numbers ≤ length is.listed
  by_choice true numbers e = let none = ok_is {E = IndexRefusal} _ _ (sym (numbers_none (file is.opened.bytes)) ∙ e) in omega (arith, ap length none)
  by_choice false numbers e =
      by_rows (filter (decides m) is.opened.rows) (IsStrictlySortedBy-filter compare_rows (decides m) is.opened.rows (held_ascends is.opened.bytes is.opened.toc.postings_table is.opened.rows is.is_opened.rows_are))
      (λ row has. of_filter (decides m) is.opened.rows row has) (λ row has. decides_name m row (member_passes (decides m) is.opened.rows row has)) numbers e

  pub no_more_than_all : (external : List Label) (numbers : List ℕ) → numbers_at (file is.opened.bytes) (deciding external is.opened.rows m) ≡ Ok numbers → length numbers ≤ length is.listed
  no_more_than_all external numbers e = by_choice (is_some (value_of external m.name)) numbers e
