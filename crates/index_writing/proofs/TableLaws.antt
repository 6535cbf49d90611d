-- The rows of the postings table of a list of series: their texts, their order, and whose lists they have.
use Rattle.std.proofs.Common.{◌≡◌, ◌≢◌, ℕ, List, [], ◌∷◌, map, zip, Some, refl, sym, ap, ◌∙◌, subst, inl, inr}
use Rattle.std.specs.declared.cmp.Ordering.{Ordering}
use Rattle.std.specs.declared.cmp.Ordering.TheVariants.{Less, Equal}
use Rattle.std.specs.Ordering.{ordering_then}
use Rattle.std.specs.List.{AllByRecursion, Contains, AllPairs}
use Rattle.label_sets.specs.declared.label.Label.{Label}
use Rattle.label_sets.specs.Labels.{compare_texts, IsLabelSet}
use Rattle.label_sets.specs.Ordered.{in_order}
use Rattle.label_sets.proofs.LabelValues.{compare_self}
use Rattle.index_parts.specs.Turns.{InOrderAfter, InOrder}
use Rattle.index_parts.specs.Rows.{compare_rows, MayComeAfter}
use Rattle.index_parts.specs.declared.index_series.IndexSeries.{IndexSeries}
use Rattle.index_writing.specs.declared.label_groups.Entry.{Entry}
use Rattle.index_writing.specs.declared.label_groups.LabelRow.{LabelRow}
use Rattle.index_writing.specs.SymbolsInUse.{symbols_of, number_of, symbol_of, raw_of}
use Rattle.index_writing.specs.LabelGroups.{all_entries, is_lesser_entry, rows_of}
use Rattle.index_writing.specs.Written.{label_rows, table_rows}
use Rattle.base.proofs.Membership.{no_member, member_cases, each_member, all_members, of_in_order, into_in_order}
use Rattle.base.proofs.Pairs.{second_in_zip}
use Rattle.index_writing.proofs.OrderedEntries.{Below, no_pairs, pairs_cons, first_pairs, later_pairs, pairs_so, pairs_in_order}
use Rattle.index_writing.proofs.LabelRows.{RowBefore, AreRowsOf, grouped_rows, row_entry, one_row}
use Rattle.index_writing.proofs.EntryOrder.{before_all, apart_entries, entry_from, entry_to}
use Rattle.index_writing.proofs.SymbolNumbers.{label_in, IsNumber, symbol_is, symbols_less}
use Rattle.index_writing.proofs.TableRows.{row_with, row_of_all}

-- the labels of each series are a label set
abbrev pub AreLawful : List IndexSeries → Type 0
AreLawful list = AllByRecursion (λ one. IsLabelSet one.labels) list

-- what is known of a list of series and of their numbers
pub record IsNumbered (list : List IndexSeries) (numbers : List ℕ) : Type 0 where
  pub lawful : AreLawful list
  pub rise : AllPairs Below numbers

abbrev pub entries : List IndexSeries → List ℕ → List Entry
entries list numbers = all_entries (map (raw_of (symbols_of list)) list) numbers

-- a label of a listed series that has these symbol numbers
pub record HasLabel (list : List IndexSeries) (name value : ℕ) : Type 0 where
  pub label : Label
  pub named : label.name ≢ []
  pub name_is : IsNumber list name label.name
  pub value_is : IsNumber list value label.value

named : (labels : List Label) (l : Label) → IsLabelSet labels → Contains labels l → l.name ≢ []
named [] l lawful h = absurd (no_member l h)
named (x ∷ labels) l lawful h = elim (member_cases x l _ h) [
  | inl is ↦ (λ e. lawful.0 (ap (λ y. y.name) is ∙ e))
  | inr r ↦ named labels l lawful.3 r
]

first_less : (a b : Ordering) → a ≡ Less → ordering_then a b ≡ Less
first_less a b e = ap (λ o. ordering_then o b) e

second_less : (a b : Ordering) → a ≡ Equal → b ≡ Less → ordering_then a b ≡ Less
second_less a b e f = ap (λ o. ordering_then o b) e ∙ f

empty_less : (text : List ℕ) → text ≢ [] → compare_texts [] text ≡ Less
empty_less [] some = absurd (some refl)
empty_less (x ∷ text) some = refl

-- the rows of labels, each beside its place
pub rows_are : (symbols : List (List ℕ)) (rows : List LabelRow) (places : List ℕ) → label_rows symbols rows places ≡ map (λ p. row_with symbols p.1 p.0) (zip places rows)
unfolding label_rows
rows_are _ [] [] = refl
rows_are _ [] (place ∷ places) = refl
rows_are _ (row ∷ rows) [] = refl
rows_are symbols (row ∷ rows) (place ∷ places) = ap (λ l. row_with symbols row place ∷ l) (rows_are symbols rows places)

module _ {A B : Type 0} (R : B → B → Type 0) where
  abbrev Seconds : A × B → A × B → Type 0
  Seconds p q = R p.1 q.1

  zip_pairs : (xs : List A) (ys : List B) → AllPairs R ys → AllPairs Seconds (zip xs ys)
  zip_pairs [] _ up = no_pairs Seconds
  zip_pairs (x ∷ xs) [] up = no_pairs Seconds
  zip_pairs (x ∷ xs) (y ∷ ys) up =
      pairs_cons Seconds (x, y) _ (all_members _ _ (λ p h. each_member _ _ _ (first_pairs R y ys up) (second_in_zip xs ys _ _ h))) (zip_pairs xs ys (later_pairs R y ys up))

module _ (list : List IndexSeries) (numbers : List ℕ) (known : IsNumbered list numbers) where
  abbrev rows : List LabelRow
  rows = rows_of (entries list numbers)

  pub are_rows : AreRowsOf (in_order is_lesser_entry (entries list numbers)) rows
  unfolding rows_of
  are_rows = grouped_rows _ (before_all _ (apart_entries list numbers known.lawful known.rise))

  -- a row's numbers are those of series with its label
  row_series : (row : LabelRow) (n : ℕ) → Contains rows row → Contains row.series n → (s : IndexSeries) × Contains (zip numbers list) (n, s) × (has : HasLabel list row.name row.value) × Contains s.labels has.label
  row_series row n h i =
      let found = entry_from _ list numbers _ (of_in_order is_lesser_entry _ _ (row_entry _ _ row n are_rows h i)) in
      let member = second_in_zip numbers list _ _ found.1 in
      let texts = label_in list found.0 found.2 member found.3 in
      let has : HasLabel list row.name row.value = record {
        label = found.2;
        named = named _ _ (each_member _ list _ known.lawful member) found.3;
        name_is = record { among = texts.0; is = found.4 };
        value_is = record { among = texts.1; is = found.5 };
      } in
      (found.0, found.1, has, found.3)

  pub row_label : (row : LabelRow) → Contains rows row → HasLabel list row.name row.value
  row_label row h = let one = (are_rows.each row h).some in (row_series row one.0 h one.1).2

  pub row_only : (row : LabelRow) (n : ℕ) → Contains rows row → Contains row.series n → (s : IndexSeries) × Contains (zip numbers list) (n, s) × Contains s.labels (record { name = symbol_of (symbols_of list) row.name; value = symbol_of (symbols_of list) row.value })
  row_only row n h i =
      let found = row_series row n h i in
      let has = found.2 in
      (found.0, found.1, subst (Contains found.0.labels) (λ j. record { name = sym (symbol_is has.name_is) j; value = sym (symbol_is has.value_is) j }) found.3)

  -- each label of a series has its row, with the series' number
  pub label_row : (n : ℕ) (s : IndexSeries) (l : Label) → Contains (zip numbers list) (n, s) → Contains s.labels l → (row : LabelRow) × Contains rows row × (row.name ≡ number_of (symbols_of list) l.name) × (row.value ≡ number_of (symbols_of list) l.value) × Contains row.series n
  label_row n s l h i =
      let found = are_rows.all _ (into_in_order is_lesser_entry _ _ (entry_to _ _ _ n s l h i)) in
      (found.0, found.1, ap (λ k. k.0) found.2, ap (λ k. k.1) found.2, found.3)

  pub row_all : (row : LabelRow) (n : ℕ) (s : IndexSeries) → Contains rows row → Contains (zip numbers list) (n, s) → Contains s.labels (record { name = symbol_of (symbols_of list) row.name; value = symbol_of (symbols_of list) row.value }) → Contains row.series n
  row_all row n s h i j =
      let has = row_label row h in
      let found = label_row n s _ i j in
      let name = found.2 ∙ ap (number_of (symbols_of list)) (symbol_is has.name_is) ∙ sym has.name_is.is in
      let value = found.3 ∙ ap (number_of (symbols_of list)) (symbol_is has.value_is) ∙ sym has.value_is.is in
      subst (λ r. Contains r.series n) (one_row _ _ _ are_rows.ascend found.1 h name value) found.4

  -- ---- rows in order

  rows_less : (one other : LabelRow) (p q : ℕ) → Contains rows one → Contains rows other → RowBefore one other → compare_rows (row_with (symbols_of list) one p) (row_with (symbols_of list) other q) ≡ Less
  rows_less one other p q h i before =
      let a = row_label one h in
      let b = row_label other i in
      elim before.is [
        | inl less ↦ first_less _ _ (symbols_less a.name_is b.name_is less)
        | inr same ↦ second_less _ _ (ap (λ n. compare_texts (symbol_of (symbols_of list) n) (symbol_of (symbols_of list) other.name)) same.0 ∙ compare_self (symbol_of (symbols_of list) other.name)) (symbols_less a.value_is b.value_is same.1)
      ]

  -- the table is in order, whatever the places are
  pub table_in_order : (places : List ℕ) → InOrder MayComeAfter (table_rows (symbols_of list) rows places)
  unfolding table_rows
  table_in_order [] = tt
  table_in_order (place ∷ places) = (
    (refl, refl),
    subst (InOrderAfter MayComeAfter (Some (row_of_all place))) (sym (rows_are (symbols_of list) rows places)) (pairs_in_order MayComeAfter (λ p. row_with (symbols_of list) p.1 p.0) _ (zip places rows)
        (all_members _ _ (λ p h. let has = row_label p.1 (second_in_zip places rows _ _ h) in first_less _ _ (ap (compare_texts []) (symbol_is has.name_is) ∙ empty_less _ has.named)))
        (pairs_so _ _ _ (λ p q h i before. rows_less p.1 q.1 p.0 q.0 (second_in_zip places rows _ _ h) (second_in_zip places rows _ _ i) before) (zip_pairs RowBefore places rows are_rows.ascend))),
  )
