-- What is written of a list of series has its label indices and their table.
use Rattle.std.proofs.Common.{◌≡◌, ℕ, ◌≤◌, List, [], ◌∷◌, length, map, zip, Some, None, refl, sym, ap, ◌∙◌, subst}
use Rattle.std.specs.Prelude.{slice_get, unwrap_or}
use Rattle.std.specs.List.{Contains}
use Rattle.std.proofs.lemmas.List.{length-map, map-id}
use Rattle.index_parts.specs.Turns.{InOrder}
use Rattle.index_parts.specs.Contents.{IsToc}
use Rattle.index_parts.specs.Symbols.{IsSymbols}
use Rattle.index_parts.specs.LabelIndices.{IsLabelOffsets, label_index_text}
use Rattle.index_parts.specs.declared.index_series.IndexSeries.{IndexSeries}
use Rattle.index_writing.specs.declared.label_groups.NameValues.{NameValues}
use Rattle.index_parts.specs.IndexFile.{StandFor}
use Rattle.index_parts.specs.LabelTable.{HasValue, IsLabelIndexOf, HasLabelIndices}
use Rattle.index_writing.specs.SymbolsInUse.{symbols_of, number_of, symbol_of}
use Rattle.index_writing.specs.LabelGroups.{names_of}
use Rattle.index_writing.specs.Aligned.{places_at}
use Rattle.index_writing.specs.WriteSteps.{greatest}
use Rattle.index_writing.specs.Written.{label_index_texts, offset_rows, parts_of, with_series, with_label_indices, label_index_places, toc_of, written}
use Rattle.base.proofs.Lists.{zip_firsts, zip_seconds}
use Rattle.base.proofs.Membership.{each_member, all_members, of_map, into_map}
use Rattle.base.proofs.Pairs.{second_in_zip, beside_second}
use Rattle.base.specs.Order.{ComesAfter}
use Rattle.label_sets.specs.Labels.{compare_texts}
use Rattle.index_writing.proofs.OrderedEntries.{pairs_so, pairs_in_order}
use Rattle.index_writing.proofs.SymbolNumbers.{label_in, IsNumber, symbol_there, symbol_is, symbols_less}
use Rattle.index_writing.proofs.AlignedTexts.{places_many}
use Rattle.index_writing.proofs.ListPlaces.{StandsAt, each_stands, stands_on, in_order, index_stands}
use Rattle.index_writing.proofs.LabelRows.{AreNamesOf, grouped_names, one_name}
use Rattle.index_writing.proofs.TableLaws.{AreLawful, HasLabel, IsNumbered, are_rows, row_label, row_only, label_row}
use Rattle.index_writing.proofs.WrittenIndex.{written_indices}
use Rattle.index_writing.proofs.IndexWritten.{numbers, rows, many, numbered, small_numbers, pair_mapped, stand_for}

zip_swapped : {A B C : Type 0} (f : A → B) (xs : List A) (ys : List C) → zip (map f xs) ys ≡ map (λ p. (f p.1, p.0)) (zip ys xs)
zip_swapped f [] [] = refl
zip_swapped f [] (y ∷ ys) = refl
zip_swapped f (x ∷ xs) [] = refl
zip_swapped f (x ∷ xs) (y ∷ ys) = ap (λ l. (f x, y) ∷ l) (zip_swapped f xs ys)

module _ (list : List IndexSeries) where
  abbrev names : List NameValues
  names = names_of (rows list)

  abbrev symbol : ℕ → List ℕ
  symbol n = symbol_of (symbols_of list) n

  abbrev text_of : NameValues → List ℕ
  text_of name = symbol name.name

  abbrev places : List ℕ
  places = places_at 4 (with_series (parts_of list)) (label_index_texts names)

  abbrev table : List (List ℕ × ℕ)
  table = zip (map text_of names) places

  table_is : offset_rows (parts_of list) ≡ table
  unfolding parts_of label_index_places
  table_is = refl

  as_many : length (map text_of names) ≡ length places
  as_many = length-map _ _ ∙ sym (places_many 4 _ _ ∙ length-map _ _)

  first_place : (toc_of (parts_of list)).label_indices ≡ unwrap_or (slice_get (map (λ row. row.1) table) 0) 0
  unfolding toc_of parts_of label_index_places
  first_place = ap (λ l. unwrap_or (slice_get l 0) 0) (sym (zip_seconds _ _ as_many))

  stands_in : (place : ℕ) (name : NameValues) → Contains (zip places names) (place, name) → StandsAt (written list) place (label_index_text name.values)
  unfolding parts_of with_label_indices
  stands_in place name h =
      stands_on _ _ place _ _ (each_stands 4 _ _ place _ (pair_mapped (λ n. label_index_text n.values) places names place name h)) (written_indices list).is

  module _ (room : length (written list) ≤ greatest) (lawful : AreLawful list) where
    abbrev known : IsNumbered list (numbers list)
    known = numbered list lawful

    are_names : AreNamesOf (rows list) names
    are_names = grouped_names (rows list) (are_rows list (numbers list) known).ascend

    -- each value of a name is that of a label of this name
    value_label : (name : NameValues) (n : ℕ) → Contains names name → Contains name.values n → HasLabel list name.name n
    value_label name n h i =
        let found = (are_names.each name h).only n i in
        subst (HasLabel list name.name) found.3 (subst (λ m. HasLabel list m found.0.value) found.2 (row_label list (numbers list) known found.0 found.1))

    value_has : (name : NameValues) (n : ℕ) → Contains names name → Contains name.values n → HasValue list (text_of name) (symbol n)
    value_has name n h i =
        let found = (are_names.each name h).only n i in
        let some = ((are_rows list (numbers list) known).each found.0 found.1).some in
        let at = row_only list (numbers list) known found.0 some.0 found.1 some.1 in
        subst (λ v. HasValue list (text_of name) (symbol v)) found.3 (subst (λ m. HasValue list (symbol m) (symbol found.0.value)) found.2 (at.0, second_in_zip (numbers list) list _ _ at.1, at.2))

    some_label : (name : NameValues) → Contains names name → (n : ℕ) × HasLabel list name.name n
    some_label name h = let some = (are_names.each name h).some in (some.0, value_label name some.0 h some.1)

    -- a name and a value of a label, among the names
    value_found : (name value : List ℕ) → HasValue list name value → (one : NameValues) × Contains names one × IsNumber list one.name name × (n : ℕ) × Contains one.values n × (symbol n ≡ value)
    value_found name value has =
        let at = beside_second (numbers list) list has.0 (many list) has.1 in
        let row = label_row list (numbers list) known at.0 has.0 _ at.1 has.2 in
        let found = are_names.all row.0 row.1 in
        let texts = label_in list has.0 _ has.1 has.2 in
        (found.0, found.1, record { among = texts.0; is = found.2 ∙ row.2 }, row.0.value, found.3, symbol_is {list = list} (record { among = texts.1; is = row.3 }))

    texts_ascend : InOrder (ComesAfter compare_texts) (map text_of names)
    texts_ascend =
        pairs_in_order (ComesAfter compare_texts) text_of None names (all_members _ _ (λ name h. tt))
        (pairs_so _ _ _ (λ one other h i less. symbols_less (some_label one h).1.name_is (some_label other i).1.name_is less) are_names.ascend)

    -- ---- a label index

    index_all : (name : NameValues) (value : List ℕ) → Contains names name → HasValue list (text_of name) value → Contains (map symbol name.values) value
    index_all name value h has =
        let found = value_found _ value has in
        let its = (some_label name h).1.name_is in
        let same = one_name names _ name are_names.ascend found.1 h (found.2.is ∙ ap (number_of (symbols_of list)) (symbol_is its) ∙ sym its.is) in
        subst (Contains (map symbol name.values)) found.5 (into_map symbol _ _ (subst (λ one. Contains one.values found.3) same found.4))

    index_of : (name : NameValues) (place : ℕ) → Contains (zip places names) (place, name) → IsLabelIndexOf (written list) (symbols_of list) list (text_of name) place
    unfolding parts_of
    index_of name place i =
        let h = second_in_zip places names place name i in
        let stand = stand_for (symbols_of list) (λ n. n) symbol name.values (λ n k. let is = (value_label name n h k).value_is in symbol_there is ∙ ap Some (sym (symbol_is is))) in
        record {
          numbers = name.values;
          values = map symbol name.values;
          stands = index_stands (written list) place name.values room (stands_in place name i) (each_member _ names name (small_numbers list room).names h);
          ascend = in_order _ (are_names.each name h).rise;
          values_are = subst (λ ns. StandFor (symbols_of list) ns (map symbol name.values)) (map-id name.values) stand;
          only = λ value has. let found = of_map symbol _ value has in subst (HasValue list (text_of name)) found.2 (value_has name found.0 h found.1);
          all = λ value has. index_all name value h has;
        }

    -- ---- the table

    row_index : (name : List ℕ) (place : ℕ) → Contains table (name, place) → IsLabelIndexOf (written list) (symbols_of list) list name place
    row_index name place has =
        let found = of_map _ _ (name, place) (subst (λ l. Contains l (name, place)) (zip_swapped text_of names places) has) in
        subst (λ row. IsLabelIndexOf (written list) (symbols_of list) list row.0 row.1) found.2 (index_of found.0.1 found.0.0 found.1)

    name_only : (name : List ℕ) → Contains (map text_of names) name → (value : List ℕ) × HasValue list name value
    name_only name has =
        let found = of_map text_of _ name has in
        let some = (are_names.each found.0 found.1).some in
        (symbol some.0, subst (λ t. HasValue list t (symbol some.0)) found.2 (value_has found.0 some.0 found.1 some.1))

    name_all : (name value : List ℕ) → HasValue list name value → Contains (map text_of names) name
    name_all name value has =
        let found = value_found name value has in
        subst (Contains (map text_of names)) (symbol_is found.2) (into_map text_of _ _ found.1)

    pub label_table_law : IsToc (written list) (toc_of (parts_of list)) → IsSymbols (written list) (toc_of (parts_of list)).symbols (symbols_of list) → IsLabelOffsets (written list) (toc_of (parts_of list)).label_offsets (offset_rows (parts_of list)) → HasLabelIndices (written list) list
    label_table_law toc symbols offsets =
        let texts = zip_firsts (map text_of names) places as_many in
        record {
          toc = toc_of (parts_of list);
          symbols = symbols_of list;
          rows = table;
          toc_is = toc;
          symbols_are = symbols;
          rows_are = subst (IsLabelOffsets (written list) (toc_of (parts_of list)).label_offsets) table_is offsets;
          ascend = subst (InOrder (ComesAfter compare_texts)) (sym texts) texts_ascend;
          only = λ name has. name_only name (subst (λ l. Contains l name) texts has);
          all = λ name value has. subst (λ l. Contains l name) (sym texts) (name_all name value has);
          indices = row_index;
          first = first_place;
        }
