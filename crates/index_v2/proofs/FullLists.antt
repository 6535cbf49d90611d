-- Lists that have no bytes left over behind their numbers are few: each number of a list stands for a label of a series, or for
-- the series in the row of all.
use Rattle.std.proofs.Common.{◌≡◌, ℕ, suc, ◌+◌, ◌-◌, ◌*◌, ◌≤◌, List, [], ◌∷◌, ◌++◌, length, map, Option, refl, sym, ap, subst, ◌∙◌, arith, inl, inr}
use Rattle.std.specs.Int.{w32}
use Rattle.std.specs.List.{Contains}
use Rattle.std.specs.List.Sorted.{IsStrictlySortedBy}
use Rattle.std.specs.declared.cmp.Ordering.TheVariants.{Less, Equal}
use Rattle.std.proofs.lemmas.Bool.{le-ltb}
use Rattle.std.proofs.lemmas.Cmp.{tied_itself}
use Rattle.std.proofs.lemmas.List.{length-append, length-map}
use Rattle.std.proofs.lemmas.List.Elements.{Contains-append_left, Contains-append_right, Contains-append_cases}
use Rattle.std.proofs.lemmas.List.Sums.{sum_by-cons}
use Rattle.std.proofs.lemmas.Map.Keys.{sorted_tail}
use Rattle.base.proofs.Order.{Less-at_places}
use Rattle.base.proofs.Membership.{contains_first, contains_later, member_cases, no_member, of_map, into_map, place_of_member}
use Rattle.wire_bytes.proofs.FixedLaws.{wide32, number_again}
use Rattle.label_sets.specs.declared.label.Label.{Label}
use Rattle.label_sets.specs.Labels.{compare_sets}
use Rattle.index_parts.specs.Turns.{AreInTurn}
use Rattle.index_parts.specs.Postings.{IsNextPosting, IsPostings}
use Rattle.index_parts.specs.Rows.{compare_rows}
use Rattle.index_parts.specs.Placed.{at_place}
use Rattle.index_parts.specs.Parts.{file, told, list_size, lists_size}
use Rattle.index_parts.specs.Opened.{Opened}
use Rattle.index_parts.specs.declared.index_series.IndexSeries.{IndexSeries}
use Rattle.index_parts.specs.declared.postings_row.PostingsRow.{PostingsRow}
use Rattle.index_parts.specs.IndexFile.{compare_series, BelongsTo, IsFullListOf, IsOpened, AreSeriesOf, labels_of, AreFewLists}
use Rattle.index_parts.proofs.FrameLaws.{regroup}
use Rattle.index_parts.proofs.RowPlaces.{rows_total}
use Rattle.index_v2.proofs.RowsHeld.{held_ascends}
use Rattle.index_v2.proofs.ListNumbers.{numbers_rise}
use Rattle.index_v2.proofs.Apart.{AreApart, fewer, apart_append, apart_map, rising_apart}

-- ---- how long such a list is

numbers_long : (before : Option ℕ) (texts numbers : List ℕ) → AreInTurn IsNextPosting before texts numbers → length texts ≡ 4 * length numbers
numbers_long before texts [] are = ap length are
numbers_long before texts (n ∷ numbers) are =
    omega (arith, ap length are.4, length-append are.0 are.1, ap length are.2.text_is.digits, wide32.len n, numbers_long _ are.1 numbers are.3)

full_size : (index : List ℕ) (at : ℕ) (numbers : List ℕ) (is : IsPostings index at numbers) → is.left_over ≡ [] → list_size (file index) at ≡ 4 + 4 * length numbers
full_size index at numbers is none =
    let section = is.section in
    let read = number_again w32 wide32 (at_place index at) section.size (length is.content) (is.content ++ section.sum ++ section.after) section.size_is (section.stands ∙ sym (regroup section.size is.content section.sum section.after)) in
    let from_start : at - 0 ≡ at = omega arith in
    let size : list_size (file index) at ≡ length is.content = rw (le-ltb at 0 (omega arith), from_start) (ap told read) in
    let content = ap length is.content_is ∙ length-append (is.count ++ is.texts) is.left_over in
    omega (arith, size, content, length-append is.count is.texts, ap length none, ap length is.count_is.digits, wide32.len (length numbers), numbers_long _ is.texts numbers is.texts_are)

-- ---- what the numbers of all lists stand for

label_of : PostingsRow → Label
label_of row = record { name = row.name; value = row.value }

abbrev under : ℕ → Label → ℕ × Label
under number label = (number, label)

-- the row of all, and the labels of a series
places_of : ℕ × IndexSeries → List (ℕ × Label)
places_of one = map (under one.0) (record { name = []; value = [] } ∷ one.1.labels)

all_places : List (ℕ × IndexSeries) → List (ℕ × Label)
all_places [] = []
all_places (one ∷ listed) = places_of one ++ all_places listed

listed_series : List (ℕ × IndexSeries) → List IndexSeries
listed_series listed = map (λ (one : ℕ × IndexSeries). one.1) listed

many_places : (listed : List (ℕ × IndexSeries)) → length (all_places listed) ≡ length listed + labels_of (listed_series listed)
unfolding all_places places_of listed_series
many_places [] = refl
many_places (one ∷ listed) =
    omega (
      arith,
      many_places listed,
      length-append (places_of one) (all_places listed),
      length-map one.1.labels (under one.0),
      sum_by-cons (λ (s : IndexSeries). length s.labels) one.1 (listed_series listed),
    )

belongs_there : (one : ℕ × IndexSeries) (row : PostingsRow) → BelongsTo row one.1 → Contains (places_of one) (one.0, label_of row)
unfolding places_of label_of
belongs_there one row (inl (name, value)) = rw (name, value) (contains_first _ _)
belongs_there one row (inr has) = contains_later _ _ _ (into_map (under one.0) one.1.labels _ has)

place_there : (listed : List (ℕ × IndexSeries)) (one : ℕ × IndexSeries) (row : PostingsRow) → Contains listed one → BelongsTo row one.1 → Contains (all_places listed) (one.0, label_of row)
unfolding all_places
place_there [] one row has belongs = absurd (no_member one has)
place_there (first ∷ listed) one row has belongs = elim (member_cases first one listed has) [
  | inl same ↦ Contains-append_left (places_of first) (all_places listed) _ (subst (λ (o : ℕ × IndexSeries). Contains (places_of o) (one.0, label_of row)) (sym same) (belongs_there one row belongs))
  | inr later ↦ Contains-append_right (places_of first) (all_places listed) _ (place_there listed one row later belongs)
]

first_below : (row : PostingsRow) (rows : List PostingsRow) (other : PostingsRow) → IsStrictlySortedBy compare_rows (row ∷ rows) → Contains rows other → label_of row ≡ label_of other → ⊥
unfolding label_of
first_below row rows other ascend among same =
    let at = place_of_member rows other among in
    let less : compare_rows row other ≡ Less = Less-at_places compare_rows (row ∷ rows) 0 (suc at.0) row other ascend (omega arith) refl at.1 in
    let name : row.name ≡ other.name = ap (λ (l : Label). l.name) same in
    let value : row.value ≡ other.value = ap (λ (l : Label). l.value) same in
    let alike : compare_rows row other ≡ compare_rows row row = rw (← name, ← value) refl in
    let both : Less ≡ Equal = sym less ∙ alike ∙ tied_itself rows_total row in
    cc

module _ (index : List ℕ) (listed : List (ℕ × IndexSeries)) where
  -- what the numbers in the lists of rows stand for: none for what another does
  record Stand (rows : List PostingsRow) : Type 0 where
    pub pairs : List (ℕ × Label)
    pub apart : AreApart pairs
    pub among : (p : ℕ × Label) → Contains pairs p → Contains (all_places listed) p
    pub of_row : (p : ℕ × Label) → Contains pairs p → (row : PostingsRow) × Contains rows row × (p.1 ≡ label_of row)
    pub size : lists_size (file index) rows ≡ 4 * (length rows + length pairs)

  stand : (rows : List PostingsRow) → IsStrictlySortedBy compare_rows rows → ((row : PostingsRow) → Contains rows row → IsFullListOf index listed row) → Stand rows
  unfolding AreApart
  stand [] ascend full = record { pairs = []; apart = tt; among = λ p has. absurd (no_member p has); of_row = λ p has. absurd (no_member p has); size = refl }
  stand (row ∷ rows) ascend full =
      let others = stand rows (sorted_tail compare_rows row rows ascend) (λ one has. full one (contains_later row one rows has)) in
      let is = (full row (contains_first row rows)).0 in
      let pair : ℕ → ℕ × Label = λ n. (n, label_of row) in
      let here = map pair is.numbers in
      let rise = numbers_rise index row.offset is.numbers is.stands in
      let none : (p : ℕ × Label) → Contains here p → Contains others.pairs p → ⊥ = λ p one other.
      let from = of_map pair is.numbers p one in
      let behind = others.of_row p other in
      first_below row rows behind.0 ascend behind.1 (ap (λ (q : ℕ × Label). q.1) from.2 ∙ behind.2) in
      record {
        pairs = here ++ others.pairs;
        apart = apart_append here others.pairs (apart_map pair (λ n m same. ap (λ (q : ℕ × Label). q.0) same) is.numbers (rising_apart is.numbers rise)) others.apart none;
        among = λ p has. elim (Contains-append_cases here others.pairs p has) [
          | inl one ↦
              let from = of_map pair is.numbers p one in
              let only = is.only from.0 from.1 in
              subst (Contains (all_places listed)) from.2 (place_there listed (from.0, only.0) row only.1 only.2)
          | inr other ↦ others.among p other
        ];
        of_row = λ p has. elim (Contains-append_cases here others.pairs p has) [
          | inl one ↦ (row, contains_first row rows, sym (ap (λ (q : ℕ × Label). q.1) (of_map pair is.numbers p one).2))
          | inr other ↦ let behind = others.of_row p other in (behind.0, contains_later row behind.0 rows behind.1, behind.2)
        ];
        size = omega (
          arith,
          full_size index row.offset is.numbers is.stands (full row (contains_first row rows)).1,
          others.size,
          sum_by-cons (λ (r : PostingsRow). list_size (file index) r.offset) row rows,
          length-append here others.pairs,
          length-map is.numbers pair,
        );
      }

-- ---- all series but one have labels

labelled : (list : List IndexSeries) → ((one : IndexSeries) → Contains list one → 1 ≤ length one.labels) → length list ≤ labels_of list
labelled [] each = omega arith
labelled (one ∷ list) each =
    omega (arith, each one (contains_first one list), labelled list (λ other has. each other (contains_later one other list has)), sum_by-cons (λ (s : IndexSeries). length s.labels) one list)

some_labels : (one other : List Label) → compare_sets one other ≡ Less → 1 ≤ length other
some_labels [] [] less = absurd cc
some_labels (l ∷ one) [] less = absurd cc
some_labels one (l ∷ other) less = omega arith

but_one : (list : List IndexSeries) → IsStrictlySortedBy compare_series list → length list ≤ 1 + labels_of list
but_one [] ascend = omega arith
but_one (one ∷ list) ascend =
    let later = labelled list (λ other has.
    let at = place_of_member list other has in
    some_labels one.labels other.labels (Less-at_places compare_series (one ∷ list) 0 (suc at.0) one other ascend (omega arith) refl at.1)) in
    omega (arith, later, sum_by-cons (λ (s : IndexSeries). length s.labels) one list)

-- ---- the whole

by_rows : (index : List ℕ) (table : ℕ) (rows : List PostingsRow) (listed : List (ℕ × IndexSeries)) → IsStrictlySortedBy compare_rows rows → IsStrictlySortedBy compare_series (listed_series listed) → ((row : PostingsRow) → Contains rows row → IsFullListOf index listed row)
    → lists_size (file index) rows ≤ 8 * (table + length rows + labels_of (listed_series listed))
unfolding listed_series
by_rows index table [] listed ascend series full = let none : lists_size (file index) [] ≡ 0 = refl in omega (arith, none)
by_rows index table (row ∷ rows) listed ascend series full =
    let s = stand index listed (row ∷ rows) ascend full in
    omega (
      arith,
      s.size,
      fewer s.pairs (all_places listed) s.apart s.among,
      many_places listed,
      but_one (listed_series listed) series,
      length-map listed (λ (one : ℕ × IndexSeries). one.1),
    )

pub full_lists_are_few : (opened : Opened) (listed : List (ℕ × IndexSeries)) → IsOpened opened → AreSeriesOf opened listed → ((row : PostingsRow) → Contains opened.rows row → IsFullListOf opened.bytes listed row) → AreFewLists opened (map (λ (one : ℕ × IndexSeries). one.1) listed)
unfolding listed_series
full_lists_are_few opened listed is series full =
    by_rows opened.bytes opened.toc.postings_table opened.rows listed (held_ascends opened.bytes opened.toc.postings_table opened.rows is.rows_are) series.ascend full
