-- The clauses of an index hold of what is written.
use Rattle.std.proofs.Common.{◌≡◌, ℕ, ◌^◌, ◌<◌, ◌*◌, ◌≤◌, List, [], ◌∷◌, ◌++◌, length, map, zip, Some, refl, sym, ap, ◌∙◌, subst, arith, inl, inr}
use Rattle.std.specs.Prelude.{slice_get}
use Rattle.std.specs.List.{All, Contains, AllPairs}
use Rattle.std.proofs.lemmas.List.{length-map}
use Rattle.label_sets.specs.declared.label.Label.{Label}
use Rattle.label_sets.specs.Labels.{IsLabelSet}
use Rattle.index_parts.specs.declared.postings_row.PostingsRow.{PostingsRow}
use Rattle.index_parts.specs.Postings.{IsPostings, postings_text}
use Rattle.index_parts.specs.SeriesEntry.{IsSeries}
use Rattle.index_parts.specs.declared.index_series.IndexSeries.{IndexSeries}
use Rattle.index_writing.specs.declared.label_groups.LabelRow.{LabelRow}
use Rattle.index_parts.specs.IndexFile.{StandFor, IsSeriesOf, BelongsTo, IsListOf, HasRow}
use Rattle.index_writing.specs.SymbolsInUse.{symbols_of, number_of, symbol_of, raw_of}
use Rattle.index_writing.specs.LabelGroups.{rows_of}
use Rattle.index_writing.specs.Aligned.{padded, places_at}
use Rattle.index_writing.specs.WriteSteps.{greatest, EachStands}
use Rattle.index_writing.specs.Written.{HaveSmallNumbers, up_to_symbols, numbers_behind, list_texts, label_rows, table_rows, parts_of, with_series, with_label_indices, with_lists, list_places, written}
use Rattle.base.proofs.Membership.{contains_first, contains_later, no_member, member_cases, each_member, of_map, into_map}
use Rattle.base.proofs.Pairs.{first_in_zip, second_in_zip, beside_first, beside_second}
use Rattle.index_writing.proofs.OrderedEntries.{Below}
use Rattle.index_writing.proofs.SymbolNumbers.{label_in, symbol_there, symbol_is}
use Rattle.index_writing.proofs.SeriesNumbers.{numbers_rise}
use Rattle.index_writing.proofs.AlignedTexts.{places_many}
use Rattle.index_writing.proofs.PartsLaws.{as_many_numbers}
use Rattle.index_writing.proofs.SmallNumbers.{parts_small}
use Rattle.index_writing.proofs.ListPlaces.{each_stands, stands_on, list_stands}
use Rattle.index_writing.proofs.Standing.{longer}
use Rattle.index_writing.proofs.TableRows.{row_with, row_of_all}
use Rattle.index_writing.proofs.TableLaws.{AreLawful, IsNumbered, entries, rows_are, are_rows, row_label, row_only, row_all, label_row}
use Rattle.index_writing.proofs.WrittenIndex.{written_lists, written_series}

-- ---- lists in pairs

zip_map : {A B C : Type 0} (f : B → C) (xs : List A) (ys : List B) → zip xs (map f ys) ≡ map (λ p. (p.0, f p.1)) (zip xs ys)
zip_map f [] _ = refl
zip_map f (x ∷ xs) [] = refl
zip_map f (x ∷ xs) (y ∷ ys) = ap (λ l. (x, f y) ∷ l) (zip_map f xs ys)

pub pair_mapped : {A B C : Type 0} (f : B → C) (xs : List A) (ys : List B) (x : A) (y : B) → Contains (zip xs ys) (x, y) → Contains (zip xs (map f ys)) (x, f y)
pair_mapped f xs ys x y h = subst (λ l. Contains l (x, f y)) (sym (zip_map f xs ys)) (into_map _ _ (x, y) h)

pub stand_for : {A : Type 0} (symbols : List (List ℕ)) (number : A → ℕ) (text : A → List ℕ) (xs : List A) → ((x : A) → Contains xs x → slice_get symbols (number x) ≡ Some (text x)) → StandFor symbols (map number xs) (map text xs)
stand_for _ _ _ [] each = refl
stand_for symbols number text (x ∷ xs) each =
    ap (λ o. o ∷ map (slice_get symbols) (map number xs)) (each x (contains_first x _)) ∙ ap (λ l. Some (text x) ∷ l) (stand_for symbols number text xs (λ y h. each y (contains_later x y _ h)))

one_stands : (text ns : List ℕ) (symbols : List (List ℕ)) (list : List IndexSeries) (n : ℕ) (s : IndexSeries) → EachStands text ns (map (raw_of symbols) list) → Contains (zip ns list) (n, s) → (after : List ℕ) → IsSeries (text ++ after) (16 * n) (raw_of symbols s)
one_stands _ [] _ _ n s stand h _ = absurd (no_member _ h)
one_stands _ (m ∷ ns) _ [] n s stand h _ = absurd (no_member _ h)
one_stands text (m ∷ ns) symbols (t ∷ list) n s stand h after = elim (member_cases _ _ _ h) [
  | inl e ↦ subst (λ x. IsSeries (text ++ after) (16 * x.0) (raw_of symbols x.1)) e (stand.0 after)
  | inr i ↦ one_stands text ns symbols _ n s stand.1 i _
]

module _ (list : List IndexSeries) where
  -- ---- the parts by name

  abbrev pub numbers : List ℕ
  numbers = numbers_behind (up_to_symbols (symbols_of list)) (map (raw_of (symbols_of list)) list)

  abbrev pub rows : List LabelRow
  rows = rows_of (entries list numbers)

  abbrev pub listed : List (ℕ × IndexSeries)
  listed = zip numbers list

  -- where the list of all series stands, and those of labels
  abbrev pub all_place : ℕ
  all_place = length (padded 4 (with_label_indices (parts_of list)))

  abbrev pub row_places : List ℕ
  row_places = places_at 4 (padded 4 (with_label_indices (parts_of list)) ++ postings_text numbers) (map (λ row. postings_text row.series) rows)

  abbrev pub table : List PostingsRow
  table = row_of_all all_place ∷ label_rows (symbols_of list) rows row_places

  pub table_is : table_rows (parts_of list).symbols (parts_of list).rows (list_places (parts_of list)) ≡ table
  unfolding parts_of list_places places_at table_rows
  table_is = refl

  pub many : length numbers ≡ length list
  many = sym (as_many_numbers _ _ _ refl) ∙ length-map _ _

  pub many_rows : length row_places ≡ length rows
  many_rows = places_many 4 _ _ ∙ length-map _ _

  pub numbered : AreLawful list → IsNumbered list numbers
  numbered lawful = record { lawful = lawful; rise = numbers_rise _ _ }

  pub small_numbers : length (written list) ≤ greatest → HaveSmallNumbers (parts_of list)
  small_numbers room = parts_small list (omega (arith, longer (written_series list)))

  module _ (room : length (written list) ≤ greatest) (lawful : AreLawful list) where
    abbrev known : IsNumbered list numbers
    known = numbered lawful

    -- ---- lists

    list_at : (place : ℕ) (ns : List ℕ) → Contains (zip (places_at 4 (with_label_indices (parts_of list)) (list_texts numbers rows)) (list_texts numbers rows)) (place, postings_text ns) → All (λ n. n < 2 ^ 32) ns → AllPairs Below ns → IsPostings (written list) place ns
    unfolding parts_of with_lists
    list_at place ns h small rise =
        list_stands _ place ns room (stands_on _ _ place _ _ (each_stands 4 _ _ place _ h) (written_lists list).is) small rise

    pub all_stands : IsPostings (written list) all_place numbers
    unfolding parts_of places_at
    all_stands = list_at _ numbers (contains_first _ _) (small_numbers room).numbers known.rise

    row_stands : (place : ℕ) (row : LabelRow) → Contains (zip row_places rows) (place, row) → IsPostings (written list) place row.series
    unfolding parts_of places_at
    row_stands place row h =
        let member = second_in_zip _ _ place row h in
        list_at place row.series (contains_later _ _ _ (pair_mapped (λ r. postings_text r.series) row_places rows place row h)) (each_member _ _ row (small_numbers room).rows member) ((are_rows list numbers known).each row member).rise

    -- ---- rows of the table

    all_row : IsListOf (written list) listed (row_of_all all_place)
    all_row = record {
      numbers = numbers;
      stands = all_stands;
      only = λ n has. let found = beside_first numbers list n many has in (found.0, found.1, inl (refl, refl));
      all = λ n s has belongs. first_in_zip numbers list n s has;
    }

    belongs_in : (row : LabelRow) (s : IndexSeries) → Contains rows row → (place : ℕ) → BelongsTo (row_with (symbols_of list) row place) s → Contains s.labels (record { name = symbol_of (symbols_of list) row.name; value = symbol_of (symbols_of list) row.value })
    belongs_in row s member _ (inl none) = let has = row_label list numbers known row member in absurd (has.named (sym (symbol_is has.name_is) ∙ none.0))
    belongs_in row s member _ (inr h) = h

    one_row : (place : ℕ) (row : LabelRow) → Contains (zip row_places rows) (place, row) → IsListOf (written list) listed (row_with (symbols_of list) row place)
    one_row place row h =
        let member = second_in_zip _ _ place row h in
        record {
          numbers = row.series;
          stands = row_stands place row h;
          only = λ n has. let found = row_only list numbers known row n member has in (found.0, found.1, inr found.2);
          all = λ n s has belongs. row_all list numbers known row n s member has (belongs_in row s member place belongs);
        }

    pub rows_hold : (row : PostingsRow) → Contains table row → IsListOf (written list) listed row
    rows_hold row h = elim (member_cases _ row _ h) [
      | inl e ↦ subst (IsListOf (written list) listed) e all_row
      | inr i ↦ let found = of_map _ _ row (subst (λ l. Contains l row) (rows_are _ rows row_places) i) in
          subst (IsListOf (written list) listed) found.2 (one_row found.0.0 found.0.1 found.1)
    ]

    pub complete : (n : ℕ) (s : IndexSeries) (label : Label) → Contains listed (n, s) → Contains s.labels label → HasRow table label
    complete n s label h i =
        let found = label_row list numbers known n s label h i in
        let made = beside_second row_places rows found.0 many_rows found.1 in
        let texts = label_in list s label (second_in_zip numbers list n s h) i in (
          row_with (symbols_of list) found.0 made.0,
          contains_later _ _ _ (subst (λ l. Contains l (row_with (symbols_of list) found.0 made.0)) (sym (rows_are _ rows row_places)) (into_map _ _ (made.0, found.0) made.1)),
          symbol_is {list = list} (record { among = texts.0; is = found.2 }),
          symbol_is {list = list} (record { among = texts.1; is = found.3 }),
        )

    -- ---- series

    pub series_hold : (n : ℕ) (s : IndexSeries) → EachStands (with_series (parts_of list)) numbers (map (raw_of (symbols_of list)) list) → Contains listed (n, s) → IsSeriesOf (written list) (symbols_of list) n s
    unfolding raw_of
    series_hold n s stand h =
        let member = second_in_zip numbers list n s h in
        let more = written_series list in
        record {
          names = map (λ l. number_of (symbols_of list) l.name) s.labels;
          values = map (λ l. number_of (symbols_of list) l.value) s.labels;
          stands = subst (λ l. IsSeries l (16 * n) (raw_of (symbols_of list) s)) (sym more.is) (one_stands _ numbers _ list n s stand h more.more);
          names_are = stand_for _ _ (λ l. l.name) s.labels (λ l i. symbol_there (record { among = (label_in list s l member i).0; is = refl }));
          values_are = stand_for _ _ (λ l. l.value) s.labels (λ l i. symbol_there (record { among = (label_in list s l member i).1; is = refl }));
          lawful = each_member (λ one. IsLabelSet one.labels) list s lawful member;
        }
