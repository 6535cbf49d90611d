-- The least place at which the lists that were read are not those of the series.
use Rattle.std.proofs.Common.{◌≡◌, ℕ, zero, suc, ◌+◌, ◌<◌, ◌≤◌, true, false, eqb, List, [], ◌∷◌, length, Some, None, Ok, refl, sym, ap, subst, ◌∙◌, arith, ◌⊎◌, inl, inr}
use Rattle.std.specs.Prelude.{slice_get}
use Rattle.std.specs.List.{list_any, list_all, Contains}
use Rattle.std.specs.List.Sorted.{IsStrictlySortedBy}
use Rattle.std.specs.declared.cmp.Ordering.TheVariants.{Less, Equal, Greater}
use Rattle.std.proofs.lemmas.Cmp.{tied_itself, alike_right}
use Rattle.std.proofs.lemmas.Option.{same_Some}
use Rattle.std.proofs.lemmas.Map.Keys.{sorted_tail}
use Rattle.base.proofs.Membership.{all_of_members}
use Rattle.base.proofs.Order.{Less-at_places}
use Rattle.label_sets.specs.declared.label.Label.{Label}
use Rattle.label_sets.proofs.LabelValues.{by_bool}
use Rattle.index_parts.specs.declared.postings_row.PostingsRow.{PostingsRow}
use Rattle.index_parts.specs.Rows.{compare_rows}
use Rattle.index_parts.specs.Postings.{IsNextPosting}
use Rattle.index_parts.specs.PostingsReading.{posting_at, postings_at}
use Rattle.index_parts.proofs.ListLaws.{list_again}
use Rattle.index_parts.proofs.PostingsLaws.{posting_turn}
use Rattle.index_parts.specs.declared.index_series.IndexSeries.{IndexSeries}
use Rattle.index_parts.specs.IndexFile.{IsListOf}
use Rattle.index_parts.specs.RowOrder.{compare_row, StandsAt}
use Rattle.index_v2.specs.WholeReading.{is_of_row, stray_from, gap_from, gap_of, gap_among, difference}
use Rattle.index_v2.specs.Differing.{DiffersAt}
use Rattle.index_parts.proofs.RowPlaces.{rows_total, greater_above, no_row_stands, equal_texts, stands_behind}
use Rattle.index_parts.proofs.RowsBegin.{same_compare}
use Rattle.index_v2.proofs.WholeLaws.{AreTaken, taken_listed, of_row_again, belongs_again, number_has, ok_same}
use Rattle.index_v2.proofs.LeastPlaces.{IsLeast, IsLeastFrom, HasSuch, least_as, earlier_least, least_from, from_here, from_next, by_test_from, by_order_from, such_least, such_none}

-- ---- the first stray

module _ (listed : List (ℕ × IndexSeries)) where
  -- the list of the row at a place has a number that is of no series in the row
  abbrev pub StrayAt : List PostingsRow → List (List ℕ) → ℕ → Type 0
  StrayAt rows lists place = (row : PostingsRow) × (list : List ℕ) × (slice_get rows place ≡ Some row) × (slice_get lists place ≡ Some list) × (list_all (is_of_row listed row) list ≡ false)

  stray_not_first : (row : PostingsRow) (rows : List PostingsRow) (list : List ℕ) (lists : List (List ℕ)) → list_all (is_of_row listed row) list ≡ true → StrayAt (row ∷ rows) (list ∷ lists) 0 → ⊥
  stray_not_first row _ list _ all h =
      let same_row = same_Some _ _ h.2 in
      let same_list = same_Some _ _ h.3 in
      let stray : list_all (is_of_row listed row) list ≡ false = rw (same_row, same_list) h.4 in
      cc

  stray_least_from : (from : ℕ) (rows : List PostingsRow) (lists : List (List ℕ)) → IsLeastFrom from (StrayAt rows lists) (stray_from from rows lists listed)
  unfolding stray_from
  stray_least_from _ [] _ = λ k h. let at = h.2 in absurd cc
  stray_least_from _ (row ∷ rows) [] = λ k h. let at = h.3 in absurd cc
  stray_least_from from (row ∷ rows) (list ∷ lists) =
      by_test_from _ _ _ _
      (λ all. from_next from (StrayAt (row ∷ rows) (list ∷ lists)) (StrayAt rows lists) (stray_from (from + 1) rows lists listed) (stray_not_first _ rows _ lists all) (λ k h. h) (λ k h. h) (stray_least_from (from + 1) rows _))
      (λ stray. (row, list, refl, refl, stray))

-- ---- the gap of a label

module _ (number : ℕ) (label : Label) where
  -- the list of the label's row, which stands at a place, lacks the number
  abbrev pub LacksNumberAt : List PostingsRow → List (List ℕ) → ℕ → Type 0
  LacksNumberAt rows lists place = (row : PostingsRow) × (list : List ℕ) × (slice_get rows place ≡ Some row) × (slice_get lists place ≡ Some list) × (compare_row row label.name label.value ≡ Equal) × (list_any (λ n. eqb n number) list ≡ false)

  abbrev pub GapAt : List PostingsRow → List (List ℕ) → ℕ → Type 0
  GapAt rows lists place = LacksNumberAt rows lists place ⊎ StandsAt rows label.name label.value place

  below_next : (first : PostingsRow) (rows : List PostingsRow) (place : ℕ) → compare_row first label.name label.value ≡ Less → StandsAt rows label.name label.value place → (k : ℕ) (row : PostingsRow) → k < suc place → slice_get (first ∷ rows) k ≡ Some row → compare_row row label.name label.value ≡ Less
  below_next _ _ _ less stands zero _ lt at = ap (λ x. compare_row x label.name label.value) (sym (same_Some _ _ at)) ∙ less
  below_next _ _ _ less stands (suc k) row lt at = stands.below k row (omega arith) at

  above_next : (first : PostingsRow) (rows : List PostingsRow) (place : ℕ) → StandsAt rows label.name label.value place → (k : ℕ) (row : PostingsRow) → suc place ≤ k → slice_get (first ∷ rows) k ≡ Some row → compare_row row label.name label.value ≡ Greater
  above_next _ _ _ stands zero _ le at = absurd (omega arith)
  above_next _ _ _ stands (suc k) row le at = stands.above k row (omega arith) at

  stands_next : (first : PostingsRow) (rows : List PostingsRow) (place : ℕ) → compare_row first label.name label.value ≡ Less → StandsAt rows label.name label.value place → StandsAt (first ∷ rows) label.name label.value (suc place)
  stands_next _ _ _ less stands = let w = stands.within in record {
    within = omega arith;
    below = below_next _ _ _ less stands;
    above = above_next _ _ _ stands;
  }

  stands_first : (first : PostingsRow) (rows : List PostingsRow) → IsStrictlySortedBy compare_rows (first ∷ rows) → compare_row first label.name label.value ≡ Greater → StandsAt (first ∷ rows) label.name label.value 0
  stands_first first rows ascend greater = record {
    within = omega arith;
    below = λ k row lt at. absurd (omega arith);
    above = λ k row le at. greater_above (first ∷ rows) label.name label.value 0 k first row ascend refl greater (omega arith) at;
  }

  module _ (first : PostingsRow) (rows : List PostingsRow) (list : List ℕ) (lists : List (List ℕ)) where
    gap_next : compare_row first label.name label.value ≡ Less → (k : ℕ) → GapAt rows lists k → GapAt (first ∷ rows) (list ∷ lists) (suc k)
    gap_next less k (inl lacks) = inl lacks
    gap_next less k (inr stands) = inr (stands_next _ _ k less stands)

    gap_behind : (k : ℕ) → GapAt (first ∷ rows) (list ∷ lists) (suc k) → GapAt rows lists k
    gap_behind k (inl lacks) = inl lacks
    gap_behind k (inr stands) = inr (stands_behind _ _ _ _ k stands)

    no_gap_first : compare_row first label.name label.value ≡ Less → GapAt (first ∷ rows) (list ∷ lists) 0 → ⊥
    no_gap_first less (inl lacks) = let here = ap (λ x. compare_row x label.name label.value) (same_Some _ _ lacks.2) ∙ lacks.4 in cc
    no_gap_first less (inr stands) = let greater = stands.above 0 first (omega arith) refl in cc

    no_gap : IsStrictlySortedBy compare_rows (first ∷ rows) → compare_row first label.name label.value ≡ Equal → list_any (λ n. eqb n number) list ≡ true → (k : ℕ) → GapAt (first ∷ rows) (list ∷ lists) k → ⊥
    no_gap ascend equal has zero (inl lacks) =
        let none = ap (list_any (λ n. eqb n number)) (same_Some _ _ lacks.3) ∙ lacks.5 in
        cc
    no_gap ascend equal has (suc k) (inl lacks) =
        let less : compare_row first label.name label.value ≡ Less =
        sym (alike_right rows_total lacks.0 (record { name = label.name; value = label.value; offset = 0 }) first lacks.4) ∙ Less-at_places compare_rows _ 0 (suc k) first lacks.0 ascend (omega arith) refl lacks.2 in
        cc
    no_gap ascend equal has zero (inr stands) = let greater = stands.above 0 first (omega arith) refl in cc
    no_gap ascend equal has (suc k) (inr stands) = let less = stands.below 0 first (omega arith) refl in cc

  gap_least_from : (from : ℕ) (rows : List PostingsRow) (lists : List (List ℕ)) → IsStrictlySortedBy compare_rows rows → length rows ≡ length lists → IsLeastFrom from (GapAt rows lists) (gap_from from rows lists number label)
  unfolding gap_from
  gap_least_from _ [] _ ascend many = from_here _ _ (inr (no_row_stands _ _))
  gap_least_from _ (row ∷ rows) [] ascend many = absurd (omega arith)
  gap_least_from from (row ∷ rows) (list ∷ lists) ascend many =
      let next = gap_from (from + 1) rows lists number label in
      by_order_from _ _ _ _ _
      (λ less. from_next from (GapAt (row ∷ rows) (list ∷ lists)) (GapAt rows lists) next (no_gap_first row rows list lists less) (gap_next row rows list lists less) (gap_behind row rows list lists)
      (gap_least_from (from + 1) rows _ (sorted_tail compare_rows _ _ ascend) (omega arith)))
      (λ equal. by_test_from from (GapAt (row ∷ rows) (list ∷ lists)) (list_any (λ n. eqb n number) list) None (no_gap row rows list lists ascend equal) (λ lacks. inl (row, list, refl, refl, equal, lacks)))
      (λ greater. inr (stands_first _ _ ascend greater))

-- ---- the least of all

module _ (rows : List PostingsRow) (lists : List (List ℕ)) where
  abbrev pub GapOfAt : ℕ × IndexSeries → ℕ → Type 0
  GapOfAt one place = HasSuch (λ label. GapAt one.0 label rows lists place) one.1.labels

  abbrev pub FaultAt : List (ℕ × IndexSeries) → ℕ → Type 0
  FaultAt listed place = StrayAt listed rows lists place ⊎ HasSuch (λ one. GapOfAt one place) listed

  module _ (ascend : IsStrictlySortedBy compare_rows rows) (many : length rows ≡ length lists) where
    gap_of_least : (number : ℕ) (labels : List Label) → IsLeast (λ k. HasSuch (λ label. GapAt number label rows lists k) labels) (gap_of rows lists number labels)
    unfolding gap_of
    gap_of_least number [] = such_none _
    gap_of_least number (label ∷ labels) =
        such_least _ _ _ _ _
        (least_from _ _ (gap_least_from _ _ 0 _ _ ascend many))
        (gap_of_least number labels)

    gap_among_least : (listed : List (ℕ × IndexSeries)) → IsLeast (λ k. HasSuch (λ one. GapOfAt one k) listed) (gap_among rows lists listed)
    unfolding gap_among
    gap_among_least [] = such_none _
    gap_among_least (one ∷ listed) =
        such_least _ _ listed (gap_of rows lists one.0 one.1.labels) (gap_among rows lists listed) (gap_of_least one.0 one.1.labels) (gap_among_least listed)

    pub fault_least : (listed : List (ℕ × IndexSeries)) → IsLeast (FaultAt listed) (difference rows lists listed)
    fault_least listed =
        earlier_least _ _ _ _
        (least_from _ _ (stray_least_from _ 0 _ _))
        (gap_among_least listed)

-- ---- the lists differ where there is a fault, and nowhere else

module _ (index : List ℕ) (rows : List PostingsRow) (lists : List (List ℕ)) (listed : List (ℕ × IndexSeries)) (numbers : List ℕ) (taken : AreTaken index rows lists listed numbers) where
  read_at : (place : ℕ) (row : PostingsRow) (list : List ℕ) → slice_get rows place ≡ Some row → slice_get lists place ≡ Some list → postings_at index row.offset ≡ Ok list
  read_at place row _ at here = let each = taken.lists_are.each place row at in each.2 ∙ ap Ok (same_Some _ _ (sym each.1 ∙ here))

  module _ (row : PostingsRow) (list : List ℕ) (is : IsListOf index listed row) (read : postings_at index row.offset ≡ Ok list) where
    -- what stands where a row points is read
    same_numbers : is.numbers ≡ list
    same_numbers = ok_same _ _ _ (list_again IsNextPosting posting_at posting_turn _ row.offset is.numbers is.stands) read

    -- the numbers of a row that lists exactly its series are of these
    all_of_row : list_all (is_of_row listed row) list ≡ true
    all_of_row =
        all_of_members (is_of_row listed row) _ (λ number has.
        let o = is.only number (subst (λ xs. Contains xs number) (sym same_numbers) has) in
        of_row_again _ row _ _ o.1 (belongs_again row _ (taken.lawful number o.0 o.1) o.2))

    -- such a row has the number of each series with its label
    has_labelled : (number : ℕ) (series : IndexSeries) → Contains listed (number, series) → (label : Label) → Contains series.labels label → row.name ≡ label.name → row.value ≡ label.value → list_any (λ n. eqb n number) list ≡ true
    has_labelled number series has label labelled n v =
        let label_is : ◌≡◌ {A = Label} label (record { name = row.name; value = row.value }) = rw (n, v) refl in
        number_has _ _ (subst (λ xs. Contains xs number) same_numbers (is.all number series has (inr (subst (λ l. Contains series.labels l) label_is labelled))))

  gap_differs : (k number : ℕ) (series : IndexSeries) → Contains listed (number, series) → (label : Label) → Contains series.labels label → GapAt number label rows lists k → DiffersAt index rows listed k
  gap_differs k number series has label labelled (inl h) =
      inl (
        h.0,
        h.2,
        λ is.
            let texts = equal_texts h.0 _ _ h.4 in
            let some = has_labelled h.0 h.1 is (read_at k _ _ h.2 h.3) number series has label labelled texts.0 texts.1 in
            let lacks = h.5 in cc,
      )
  gap_differs k number series has label labelled (inr stands) = inr (number, series, label, has, labelled, stands)

  pub fault_differs : (k : ℕ) → FaultAt rows lists listed k → DiffersAt index rows listed k
  fault_differs k (inl h) = inl (h.0, h.2, λ is. let all = all_of_row h.0 h.1 is (read_at k h.0 _ h.2 h.3) in let stray = h.4 in cc)
  fault_differs k (inr h) = gap_differs k _ _ h.1 _ h.2.1 h.2.2

  pub no_fault_listed : (k : ℕ) → (FaultAt rows lists listed k → ⊥) → (row : PostingsRow) → slice_get rows k ≡ Some row → IsListOf index listed row
  no_fault_listed k none row at =
      let here = taken.lists_are.each k row at in
      let equal = same_compare row row row.name row.value refl refl ∙ tied_itself rows_total row in
      taken_listed index numbers rows lists listed taken k row here.0 at here.2
      (by_bool {P = list_all (is_of_row listed row) here.0 ≡ true} (list_all (is_of_row listed row) here.0) (λ all. all) (λ stray. absurd (none (inl (row, here.0, at, here.1, stray)))))
      (λ number series has labelled. by_bool {P = list_any (λ n. eqb n number) here.0 ≡ true} (list_any (λ n. eqb n number) here.0) (λ some. some)
      (λ lacks. absurd (none (inr ((number, series), has, (record { name = row.name; value = row.value }, labelled, inl (row, here.0, at, here.1, equal, lacks)))))))

  no_fault_same : (k : ℕ) → (FaultAt rows lists listed k → ⊥) → DiffersAt index rows listed k → ⊥
  no_fault_same k none (inl other) = other.2 (no_fault_listed k none other.0 other.1)
  no_fault_same k none (inr h) = none (inr ((h.0, h.1), h.3, (h.2, h.4, inr h.5)))

  pub faults_least : IsLeast (FaultAt rows lists listed) (difference rows lists listed)
  faults_least = fault_least rows lists taken.ascend taken.lists_are.many listed

  pub differs_least : IsLeast (DiffersAt index rows listed) (difference rows lists listed)
  differs_least = least_as _ _ _ fault_differs no_fault_same faults_least
