-- What reading a whole index takes from its bytes, against the grammar.
use Rattle.std.proofs.Common.{◌≡◌, ◌*◌, ◌≢◌, ℕ, zero, suc, true, cond, eqb, List, [], ◌∷◌, length, map, zip, Option, Some, None, Result, Ok, refl, sym, ap, subst, ◌∙◌, arith, ◌⊎◌, inl, inr}
use Rattle.std.specs.Prelude.{slice_get, ◌&&◌, ◌==◌, nat_lt}
use Rattle.std.specs.List.{list_any, list_all, Contains}
use Rattle.std.specs.List.Sorted.{IsStrictlySortedBy}
use Rattle.std.specs.declared.cmp.Ordering.TheVariants.{Equal}
use Rattle.std.specs.Cmp.Lexicographic.{bytes_decides}
use Rattle.std.proofs.lemmas.Bool.{and_parts, cases_order, lt-ltb, ltb-true, eq-eqb, eqb-true}
use Rattle.std.proofs.lemmas.List.{length-map}
use Rattle.std.proofs.lemmas.Option.{same_Some}
use Rattle.std.proofs.lemmas.Cmp.{tied_itself, tied_back}
use Rattle.std.proofs.lemmas.List.{nil_from_length}
use Rattle.base.proofs.Lists.{zip_firsts, zip_seconds, zip_parts}
use Rattle.base.proofs.Membership.{all_at_member, any_of_member, contains_place, member_of_any, of_map, place_of_member}
use Rattle.base.proofs.Order.{Less-at_places}
use Rattle.base.proofs.Bools.{bytes_eq-itself}
use Rattle.base.specs.Reading.{refused_as}
use Rattle.base.specs.Grammar.{IsBytes}
use Rattle.base.proofs.Binds.{unless_ok, refused_as_ok, ok_is}
use Rattle.label_sets.specs.declared.label.Label.{Label}
use Rattle.label_sets.specs.Labels.{value_of, IsLabelSet, StandsBefore, ComesBefore, compare_texts}
use Rattle.label_sets.proofs.LabelValues.{by_bool, value_hit, value_miss, before_differs}
use Rattle.label_sets.proofs.SetLaws.{value_in}
use Rattle.index_parts.specs.declared.toc_reading.Toc.{Toc}
use Rattle.index_parts.specs.declared.postings_row.PostingsRow.{PostingsRow}
use Rattle.index_parts.specs.Turns.{AreInTurn}
use Rattle.index_parts.specs.Rows.{compare_rows, IsNextRow, IsPostingsTable}
use Rattle.index_parts.specs.Postings.{IsNextPosting, IsPostings}
use Rattle.index_parts.specs.PostingsReading.{posting_at, postings_at}
use Rattle.index_parts.proofs.ListLaws.{list_found, list_again}
use Rattle.index_parts.proofs.PostingsLaws.{posting_turn}
use Rattle.index_parts.specs.declared.index_series.IndexSeries.{IndexSeries}
use Rattle.index_parts.specs.Opened.{Opened}
use Rattle.index_parts.specs.Framed.{IsEntry}
use Rattle.index_parts.specs.Turns.{InOrder}
use Rattle.index_parts.specs.IndexFile.{StandsBehind, compare_series, BelongsTo, IsListOf, AreListed, Holds, IsOpened, AreSeriesOf, AreFewLists}
use Rattle.index_v2.specs.declared.refusal.IndexRefusal.{IndexRefusal}
use Rattle.index_v2.specs.Opening.{refused_in}
use Rattle.index_parts.specs.Parts.{file}
use Rattle.index_v2.specs.Held.{whole_file}
use Rattle.index_v2.specs.PostingsLists.{row_of, list_of, postings_of}
use Rattle.index_v2.specs.WholeReading.{present_at, all_at, lists_at, few_at, belongs, has_value, is_of_row}
use Rattle.index_parts.proofs.RowPlaces.{rows_total}
use Rattle.index_v2.proofs.RowsHeld.{held_ascends}
use Rattle.index_parts.proofs.RowsBegin.{same_compare}
use Rattle.index_v2.proofs.LabelLaws.{numbered_found, numbered_again}
use Rattle.index_v2.proofs.SeriesApart.{apart_found, apart_again}
use Rattle.index_v2.proofs.ListsFew.{few_again}
use Rattle.index_v2.proofs.WholeParts.{AreLists, all_found, all_again, lists_found, lists_again}

-- ---- which row a series belongs to

has_value_is : (value : List ℕ) (o : Option (List ℕ)) → has_value value o ≡ true → o ≡ Some value
has_value_is _ None e = absurd cc
has_value_is value (Some found) e = ap Some ((bytes_decides found value).0 e)

empty_text : (text : List ℕ) → (length text == 0) ≡ true → text ≡ []
empty_text text e = nil_from_length _ (eqb-true (length text) 0 e)

belongs_found : (row : PostingsRow) (one : IndexSeries) → belongs row.name row.value one ≡ true → BelongsTo row one
unfolding belongs
belongs_found row one e = by_bool ((length row.name == 0) && (length row.value == 0))
    (λ empty. let b = and_parts (length row.name == 0) (length row.value == 0) empty in inl (empty_text _ b.0, empty_text _ b.1))
    (λ some.
    let e' : has_value row.value (value_of one.labels row.name) ≡ true = rw some at e in
    inr (value_in _ _ _ (has_value_is _ _ e')))

stands_at : (name : List ℕ) (ls : List Label) (place : ℕ) (l : Label) → StandsBefore name ls → slice_get ls place ≡ Some l → ComesBefore name l.name
stands_at _ [] _ l stands at = absurd cc
stands_at name (m ∷ ls) zero l stands at = ap (λ x. compare_texts name x.name) (sym (same_Some m l at)) ∙ stands.0
stands_at name (m ∷ ls) (suc place) l stands at = stands_at name ls _ l stands.1 at

value_again : (ls : List Label) (place : ℕ) (l : Label) → IsLabelSet ls → slice_get ls place ≡ Some l → value_of ls l.name ≡ Some l.value
value_again [] _ l is at = absurd cc
value_again (m ∷ ls) zero l is at =
    let same = same_Some m l at in
    value_hit m _ _ (ap (λ x. x.name) same) ∙ ap (λ x. Some x.value) same
value_again (m ∷ ls) (suc place) l is at = value_miss m _ _ (before_differs _ _ (stands_at _ _ _ l is.2 at)) ∙ value_again _ _ l is.3 at

belongs_empty : (row : PostingsRow) (one : IndexSeries) → row.name ≡ [] → row.value ≡ [] → belongs row.name row.value one ≡ true
unfolding belongs
belongs_empty _ _ n v = rw (n, v) refl

belongs_label : (row : PostingsRow) (one : IndexSeries) → value_of one.labels row.name ≡ Some row.value → belongs row.name row.value one ≡ true
unfolding belongs
belongs_label row one e = by_bool {P = cond ((length row.name == 0) && (length row.value == 0)) true (has_value row.value (value_of one.labels row.name)) ≡ true} ((length row.name == 0) && (length row.value == 0))
    (λ empty. rw empty refl)
    (λ some. rw (some, e) (bytes_eq-itself row.value))

pub belongs_again : (row : PostingsRow) (one : IndexSeries) → IsLabelSet one.labels → BelongsTo row one → belongs row.name row.value one ≡ true
belongs_again row one is (inl empty) = belongs_empty row _ empty.0 empty.1
belongs_again row one is (inr has) =
    let at = place_of_member _ _ has in
    belongs_label row _ (value_again _ _ _ is at.1)

of_row_found : (listed : List (ℕ × IndexSeries)) (row : PostingsRow) (number : ℕ) → is_of_row listed row number ≡ true → (series : IndexSeries) × Contains listed (number, series) × BelongsTo row series
of_row_found listed row number e =
    let m = member_of_any _ _ e in
    let b = and_parts (m.0.0 == number) (belongs row.name row.value m.0.1) m.2 in
    let same = eqb-true m.0.0 number b.0 in
    (m.0.1, subst (λ n. Contains listed (n, m.0.1)) same m.1, belongs_found row _ b.1)

pub of_row_again : (listed : List (ℕ × IndexSeries)) (row : PostingsRow) (number : ℕ) (series : IndexSeries) → Contains listed (number, series) → belongs row.name row.value series ≡ true → is_of_row listed row number ≡ true
of_row_again _ _ number _ has e = any_of_member _ _ _ has (rw (eq-eqb number number refl) e)

-- ---- the table

first_in_turn : (text : List ℕ) (row : PostingsRow) (rows : List PostingsRow) → AreInTurn IsNextRow None text (row ∷ rows) → (row.name ≡ []) × (row.value ≡ [])
first_in_turn _ _ _ are = are.2.ascends

pub first_is_empty : (index : List ℕ) (reference : ℕ) (row : PostingsRow) (rows : List PostingsRow) → Holds IsPostingsTable index reference (row ∷ rows) → (row.name ≡ []) × (row.value ≡ [])
first_is_empty index reference row rows holds = by_bool {P = (row.name ≡ []) × (row.value ≡ [])} (reference == 0)
    (λ zero_is. let none : row ∷ rows ≡ [] = rw zero_is at holds in absurd cc)
    (λ some. let table : IsPostingsTable index reference (row ∷ rows) = rw some at holds in first_in_turn _ _ _ table.texts_are)

same_place : (rows : List PostingsRow) (i j : ℕ) (one other : PostingsRow) → IsStrictlySortedBy compare_rows rows → slice_get rows i ≡ Some one → slice_get rows j ≡ Some other → compare_rows one other ≡ Equal → i ≡ j
same_place _ i j one other ascend a b equal = elim (cases_order i j) [
  | inl same ↦ same
  | inr apart ↦ elim apart [
    | inl less ↦ let no = Less-at_places compare_rows _ i j _ _ ascend less a b in absurd cc
    | inr more ↦ let no = Less-at_places compare_rows _ j i _ _ ascend more b a in let back = tied_back rows_total one other equal in absurd cc
  ]
]

-- ---- the listed numbers

first_row : (row : PostingsRow) (rows : List PostingsRow) → row.name ≡ [] → row.value ≡ [] → row_of (row ∷ rows) [] [] ≡ Some row
unfolding row_of
first_row _ _ n v = rw (n, v) refl

no_row : row_of [] [] [] ≡ None
unfolding row_of
no_row = refl

numbers_found : (index : List ℕ) (reference : ℕ) (rows : List PostingsRow) (numbers : List ℕ) → IsBytes index → Holds IsPostingsTable index reference rows → list_of (file index) (row_of rows [] []) ≡ Ok numbers → AreListed index rows numbers
numbers_found index _ [] _ are holds e =
    let e' = ap (list_of (file index)) (sym no_row) ∙ e in
    sym (ok_is {E = IndexRefusal} _ _ e')
numbers_found index _ (row ∷ rows) numbers are holds e =
    let empty = first_is_empty _ _ _ _ holds in
    let e' = ap (list_of (file index)) (sym (first_row _ _ empty.0 empty.1)) ∙ e in
    list_found IsNextPosting posting_at posting_turn index row.offset numbers are (refused_as_ok _ _ _ e')

numbers_again : (index : List ℕ) (reference : ℕ) (rows : List PostingsRow) (numbers : List ℕ) → Holds IsPostingsTable index reference rows → AreListed index rows numbers → list_of (file index) (row_of rows [] []) ≡ Ok numbers
numbers_again index _ [] _ holds are = ap (list_of (file index)) no_row ∙ ap (λ xs. Ok xs) (sym are)
numbers_again index _ (row ∷ rows) _ holds are =
    let empty = first_is_empty _ _ _ _ holds in
    ap (list_of (file index)) (first_row _ _ empty.0 empty.1) ∙ ap (refused_as (refused_in 5)) (list_again IsNextPosting posting_at posting_turn _ _ _ are)

-- ---- absent sections

abbrev ArePresent : Toc → Type 0
ArePresent toc = (toc.symbols ≢ 0) × (toc.series ≢ 0) × (toc.postings ≢ 0)

not_zero : (n : ℕ) → nat_lt 0 n ≡ true → n ≢ 0
not_zero n e zero_is = let lt = ltb-true 0 n e in omega arith

some_number : (n : ℕ) → n ≢ 0 → nat_lt 0 n ≡ true
some_number n other = lt-ltb 0 n (omega arith)

present_found : (toc : Toc) (numbers : List ℕ) (x : Unit {0}) → present_at toc numbers ≡ Ok x → (numbers ≡ []) ⊎ ArePresent toc
unfolding present_at
present_found _ [] x e = inl refl
present_found _ (number ∷ numbers) x e =
    let symbols = unless_ok _ _ _ x e in
    let series = unless_ok _ _ _ x symbols.1 in
    let postings = unless_ok _ _ _ x series.1 in
    inr (not_zero _ symbols.0, not_zero _ series.0, not_zero _ postings.0)

present_none : (toc : Toc) → present_at toc [] ≡ Ok tt
unfolding present_at
present_none _ = refl

present_some : (toc : Toc) (number : ℕ) (numbers : List ℕ) → ArePresent toc → present_at toc (number ∷ numbers) ≡ Ok tt
unfolding present_at
present_some toc _ _ are = rw (some_number toc.symbols are.0, some_number toc.series are.1, some_number toc.postings are.2) refl

present_again : (toc : Toc) (numbers : List ℕ) → (numbers ≡ []) ⊎ ArePresent toc → present_at toc numbers ≡ Ok tt
present_again _ [] why = present_none _
present_again _ (number ∷ numbers) (inl none) = absurd cc
present_again _ (number ∷ numbers) (inr are) = present_some _ _ _ are

-- ---- from reading to the grammar

module _ {A B : Type 0} where
  zip_first : (xs : List A) (ys : List B) (place : ℕ) (x : A) (y : B) → slice_get (zip xs ys) place ≡ Some (x, y) → slice_get xs place ≡ Some x
  zip_first [] _ _ x y at = absurd cc
  zip_first (a ∷ xs) [] _ x y at = absurd cc
  zip_first (a ∷ xs) (b ∷ ys) zero x y at = ap (λ p. Some p.0) (same_Some _ _ at)
  zip_first (a ∷ xs) (b ∷ ys) (suc place) x y at = zip_first xs _ _ x y at

has_number : (number : ℕ) (list : List ℕ) → list_any (λ n. eqb n number) list ≡ true → Contains list number
has_number number list e =
    let m = member_of_any _ _ e in
    subst (Contains list) (eqb-true m.0 number m.2) m.1

pub number_has : (number : ℕ) (list : List ℕ) → Contains list number → list_any (λ n. eqb n number) list ≡ true
number_has number _ has = any_of_member _ _ _ has (eq-eqb number number refl)

pub ok_same : {A E : Type 0} (r : Result A E) (x y : A) → r ≡ Ok x → r ≡ Ok y → x ≡ y
ok_same {A} {E} r x y e f = ok_is {E = E} x y (sym e ∙ f)

-- what reading took from the rows
pub record AreTaken (index : List ℕ) (rows : List PostingsRow) (lists : List (List ℕ)) (listed : List (ℕ × IndexSeries)) (numbers : List ℕ) : Type 0 where
  pub are_bytes : IsBytes index
  pub ascend : IsStrictlySortedBy compare_rows rows
  pub first_empty : (row : PostingsRow) (others : List PostingsRow) → rows ≡ row ∷ others → (row.name ≡ []) × (row.value ≡ []) × (postings_at index row.offset ≡ Ok numbers)
  pub lists_are : AreLists index rows lists
  pub firsts_are : (number : ℕ) (series : IndexSeries) → Contains listed (number, series) → Contains numbers number
  pub lawful : (number : ℕ) (series : IndexSeries) → Contains listed (number, series) → IsLabelSet series.labels

module _ (index : List ℕ) (numbers : List ℕ) where
  -- the list of a row of the empty pair is that of all series
  empty_row : (rows : List PostingsRow) → IsStrictlySortedBy compare_rows rows → ((row : PostingsRow) (others : List PostingsRow) → rows ≡ row ∷ others → (row.name ≡ []) × (row.value ≡ []) × (postings_at index row.offset ≡ Ok numbers))
      → (place : ℕ) (row : PostingsRow) → slice_get rows place ≡ Some row → row.name ≡ [] → row.value ≡ [] → postings_at index row.offset ≡ Ok numbers
  empty_row [] ascend first place row at n v = absurd cc
  empty_row (r ∷ rows) ascend first place row at n v =
      let f = first r rows refl in
      let equal : compare_rows r row ≡ Equal = sym (same_compare r row r.name r.value (n ∙ sym f.0) (v ∙ sym f.1)) ∙ same_compare r r r.name r.value refl refl ∙ tied_itself rows_total r in
      let zero_is : 0 ≡ place = same_place (r ∷ rows) 0 place r row ascend refl at equal in
      let same : r ≡ row = same_Some r row (ap (λ (k : ℕ). slice_get (r ∷ rows) k) zero_is ∙ at) in
      ap (λ (x : PostingsRow). postings_at index x.offset) (sym same) ∙ f.2

  -- a row lists exactly its series where each of its numbers is of one, and it has those of each series with its label
  pub taken_listed : (rows : List PostingsRow) (lists : List (List ℕ)) (listed : List (ℕ × IndexSeries)) → AreTaken index rows lists listed numbers → (place : ℕ) (row : PostingsRow) (list : List ℕ) → slice_get rows place ≡ Some row → postings_at index row.offset ≡ Ok list → list_all (is_of_row listed row) list ≡ true
      → ((number : ℕ) (series : IndexSeries) → Contains listed (number, series) → Contains series.labels (record { name = row.name; value = row.value }) → list_any (λ n. eqb n number) list ≡ true) → IsListOf index listed row
  taken_listed rows lists listed taken place row list at read only labelled = record {
    numbers = list;
    stands = list_found IsNextPosting posting_at posting_turn index row.offset list taken.are_bytes read;
    only = λ number n. of_row_found listed row number (all_at_member (is_of_row listed row) list number only n);
    all = λ number series has belongs. elim belongs [
      | inl empty ↦
          let all_read = empty_row rows taken.ascend taken.first_empty place row at empty.0 empty.1 in
          subst (λ (xs : List ℕ). Contains xs number) (ok_same (postings_at index row.offset) numbers list all_read read) (taken.firsts_are number series has)
      | inr label ↦ has_number number list (labelled number series has label)
    ];
  }

listed_first : (index : List ℕ) (reference : ℕ) (rows : List PostingsRow) (numbers : List ℕ) → Holds IsPostingsTable index reference rows → list_of (file index) (row_of rows [] []) ≡ Ok numbers → (row : PostingsRow) (others : List PostingsRow) → rows ≡ row ∷ others → (row.name ≡ []) × (row.value ≡ []) × (postings_at index row.offset ≡ Ok numbers)
listed_first index reference _ _ holds e _ _ is =
    let holds' = subst (Holds IsPostingsTable index reference) is holds in
    let empty = first_is_empty _ _ _ _ holds' in
    let e' = ap (list_of (file index)) (sym (first_row _ _ empty.0 empty.1)) ∙ ap (λ rs. list_of (file index) (row_of rs [] [])) (sym is) ∙ e in
    (empty.0, empty.1, refused_as_ok _ _ _ e')

no_pairs : (numbers : List ℕ) (list : List IndexSeries) → numbers ≡ [] → zip numbers list ≡ []
no_pairs [] _ e = refl
no_pairs (n ∷ numbers) _ e = absurd cc

nothing_or : (toc : Toc) (numbers : List ℕ) (list : List IndexSeries) → (numbers ≡ []) ⊎ ArePresent toc → (zip numbers list ≡ []) ⊎ ArePresent toc
nothing_or _ _ _ (inl none) = inl (no_pairs _ _ none)
nothing_or _ _ _ (inr are) = inr are

no_first : {A B : Type 0} (ps : List (A × B)) → ps ≡ [] → map (λ (p : A × B). p.0) ps ≡ []
no_first [] e = refl
no_first (p ∷ ps) e = absurd cc

present_then : (toc : Toc) (listed : List (ℕ × IndexSeries)) → (listed ≡ []) ⊎ ArePresent toc → (map (λ (one : ℕ × IndexSeries). one.0) listed ≡ []) ⊎ ArePresent toc
present_then _ _ (inl none) = inl (no_first _ none)
present_then _ _ (inr are) = inr are

-- ---- what was read before the lists are held against the series

pub record HasRead (opened : Opened) (numbers : List ℕ) (list : List IndexSeries) (lists : List (List ℕ)) : Type 0 where
  pub listed : postings_of (whole_file opened) [] [] ≡ Ok numbers
  pub present : present_at opened.toc numbers ≡ Ok tt
  pub series : all_at opened.bytes opened.symbols None None numbers ≡ Ok list
  pub few : few_at opened.toc (file opened.bytes) opened.rows list ≡ Ok tt
  pub read : lists_at (file opened.bytes) opened.rows ≡ Ok lists

module _ (opened : Opened) (numbers : List ℕ) (list : List IndexSeries) (lists : List (List ℕ)) (are : IsBytes opened.bytes) (is : IsOpened opened) (has : HasRead opened numbers list lists) where
  pub series_known : AreSeriesOf opened (zip numbers list)
  series_known =
      let series = all_found opened.bytes opened.symbols None None numbers list has.series in
      record {
        numbers_are = subst (AreListed opened.bytes opened.rows) (sym (zip_firsts numbers list series.many)) (numbers_found opened.bytes opened.toc.postings_table opened.rows numbers are is.rows_are has.listed);
        present = nothing_or opened.toc numbers list (present_found opened.toc numbers tt has.present);
        stand = λ number one h. numbered_found opened.bytes opened.symbols number one are (series.each number one h);
        apart = subst (λ (ns : List ℕ). InOrder (StandsBehind opened.bytes) ns) (sym (zip_firsts numbers list series.many)) (apart_found opened.bytes None numbers series.apart);
        ascend = subst (IsStrictlySortedBy compare_series) (sym (zip_seconds numbers list series.many)) series.ascend;
      }

  pub as_listed : map (λ (one : ℕ × IndexSeries). one.1) (zip numbers list) ≡ list
  as_listed = zip_seconds _ _ (all_found _ _ _ _ _ _ has.series).many

  pub are_taken : AreTaken opened.bytes opened.rows lists (zip numbers list) numbers
  are_taken = record {
    are_bytes = are;
    ascend = held_ascends _ _ _ is.rows_are;
    first_empty = listed_first _ _ _ _ is.rows_are has.listed;
    lists_are = lists_found _ _ _ has.read;
    firsts_are = λ number one h. let at = place_of_member _ _ h in contains_place _ at.0 _ (zip_first numbers list at.0 _ _ at.1);
    lawful = λ number one h. (series_known.stand number one h).lawful;
  }

-- a listed number has the content of its series
entry_of : (opened : Opened) (listed : List (ℕ × IndexSeries)) → AreSeriesOf opened listed → (n : ℕ) → Contains (map (λ (one : ℕ × IndexSeries). one.0) listed) n → (content : List ℕ) × IsEntry opened.bytes (16 * n) content
entry_of opened listed known n has =
    let one = of_map (λ (one : ℕ × IndexSeries). one.0) listed n has in
    let is = known.stand one.0.0 one.0.1 one.1 in
    (is.stands.content, subst (λ (m : ℕ). IsEntry opened.bytes (16 * m) is.stands.content) one.2 is.stands.entry)

-- such series are read, where each row has a list
pub read_again : (opened : Opened) (listed : List (ℕ × IndexSeries)) → IsOpened opened → AreSeriesOf opened listed → AreFewLists opened (map (λ (one : ℕ × IndexSeries). one.1) listed) → ((row : PostingsRow) → Contains opened.rows row → (numbers : List ℕ) × IsPostings opened.bytes row.offset numbers)
    → (lists : List (List ℕ)) × HasRead opened (map (λ (one : ℕ × IndexSeries). one.0) listed) (map (λ (one : ℕ × IndexSeries). one.1) listed) lists
read_again opened listed is known few stand =
    let numbers = map (λ (one : ℕ × IndexSeries). one.0) listed in
    let list = map (λ (one : ℕ × IndexSeries). one.1) listed in
    let lists = lists_again _ _ (λ row has. let one = stand row has in (one.0, list_again IsNextPosting posting_at posting_turn _ _ _ one.1)) in (
      lists.0,
      record {
        listed = numbers_again opened.bytes opened.toc.postings_table opened.rows numbers is.rows_are known.numbers_are;
        present = present_again opened.toc numbers (present_then opened.toc listed known.present);
        series = all_again opened.bytes opened.symbols None None numbers list (record {
          many = length-map listed (λ (one : ℕ × IndexSeries). one.0) ∙ sym (length-map listed (λ (one : ℕ × IndexSeries). one.1));
          each = λ number one has. numbered_again opened.bytes opened.symbols number one (known.stand number one (subst (λ (ps : List (ℕ × IndexSeries)). Contains ps (number, one)) (zip_parts listed) has));
          apart = apart_again opened.bytes None numbers tt (λ n has. entry_of opened listed known n has) known.apart;
          behind = tt;
          ascend = known.ascend;
        });
        few = few_again opened list few;
        read = lists.1;
      },
    )
