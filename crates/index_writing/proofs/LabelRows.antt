-- Rows of entries, and names of rows: each label once with the numbers of its series, and each name once with its values.
use Rattle.std.proofs.Common.{◌≡◌, ℕ, ◌<◌, true, ◌&&◌, List, map, refl, ap, ◌∙◌, subst, arith, inl, inr, ◌⊎◌}
use Rattle.std.specs.Prelude.{◌==◌}
use Rattle.std.proofs.lemmas.Bool.{and_parts, eqb-true}
use Rattle.std.proofs.lemmas.Bool.Decides.{nat_tests}
use Rattle.index_writing.specs.declared.label_groups.Entry.{Entry}
use Rattle.index_writing.specs.declared.label_groups.LabelRow.{LabelRow}
use Rattle.index_writing.specs.declared.label_groups.NameValues.{NameValues}
use Rattle.index_writing.specs.LabelGroups.{grouped, row_of_entry, have_same_label, join_series, values_of_row, have_same_name, join_values, names_of}
use Rattle.std.specs.List.{Contains, AllPairs}
use Rattle.index_writing.proofs.GroupLaws.{IsGrouping, AreGroups, are_groups, one_group}

-- a label is before another, by the numbers of its name and value
abbrev pub KeyBefore : ℕ → ℕ → ℕ → ℕ → Type 0
KeyBefore name value other_name other_value = (name < other_name) ⊎ ((name ≡ other_name) × (value < other_value))

pub record LabelBefore (one other : ℕ × ℕ) : Type 0 where
  pub is : KeyBefore one.0 one.1 other.0 other.1

pub record Before (one other : Entry) : Type 0 where
  pub is : KeyBefore one.name one.value other.name other.value ⊎ ((one.name ≡ other.name) × (one.value ≡ other.value) × (one.series < other.series))

abbrev pub entry_key : Entry → ℕ × ℕ
entry_key entry = (entry.name, entry.value)

abbrev pub row_key : LabelRow → ℕ × ℕ
row_key row = (row.name, row.value)

abbrev pub RowBefore : LabelRow → LabelRow → Type 0
RowBefore one other = LabelBefore (row_key one) (row_key other)

abbrev pub NameBefore : NameValues → NameValues → Type 0
NameBefore one other = one.name < other.name

-- an entry of a row's label
abbrev pub entry_in : LabelRow → ℕ → Entry
entry_in row number = record { name = row.name; value = row.value; series = number }

abbrev pub AreRowsOf : List Entry → List LabelRow → Type 0
AreRowsOf = AreGroups entry_key (λ entry. entry.series) row_key (λ row. row.series) LabelBefore

abbrev pub AreNamesOf : List LabelRow → List NameValues → Type 0
AreNamesOf = AreGroups (λ row. row.name) (λ row. row.value) (λ name. name.name) (λ name. name.values) (λ n m. n < m)

-- ---- rows

pub key_trans : (a b c d e f : ℕ) → KeyBefore a b c d → KeyBefore c d e f → KeyBefore a b e f
key_trans a b c d e f (inl l) (inl m) = inl (omega arith)
key_trans a b c d e f (inl l) (inr m) = inl (omega arith)
key_trans a b c d e f (inr l) (inl m) = inl (omega arith)
key_trans a b c d e f (inr l) (inr m) = inr (l.0 ∙ m.0, omega arith)

not_itself : (k : ℕ × ℕ) → LabelBefore k k → ⊥
not_itself k b = elim b.is [ inl l ↦ omega arith | inr l ↦ let less = l.1 in omega arith ]

both_true : (n m : ℕ) → (n == n) && (m == m) ≡ true
both_true n m = grind (arith, nat_tests)

have_parts : (a b : LabelRow) → have_same_label a b ≡ true → row_key a ≡ row_key b
have_parts a b is =
    let both = and_parts (a.name == b.name) (a.value == b.value) is in
    let name = eqb-true _ _ both.0 in
    let value = eqb-true _ _ both.1 in
    λ i. (name i, value i)

have_all : (a b : LabelRow) → row_key a ≡ row_key b → have_same_label a b ≡ true
have_all a b same = ap (λ k. (k.0 == b.name) && (k.1 == b.value)) same ∙ both_true b.name b.value

entries_grouping : IsGrouping entry_key (λ entry. entry.series) row_key (λ row. row.series) LabelBefore Before have_same_label join_series row_of_entry
entries_grouping = record {
  before_parts = λ x y b. elim b.is [ inl k ↦ inl (record { is = k }) | inr s ↦ inr ((λ i. (s.0 i, s.1 i)), s.2) ];
  irreflexive = not_itself;
  trans = λ a b c p q. record { is = key_trans a.0 _ _ _ _ _ p.is q.is };
  same_keys = have_parts;
  same_test = have_all;
  of_key = λ x. refl;
  of_numbers = λ x. refl;
  join_key = λ a b. refl;
  join_numbers = λ a b. refl;
}

pub grouped_rows : (entries : List Entry) → AllPairs Before entries → AreRowsOf entries (grouped have_same_label join_series (map row_of_entry entries))
grouped_rows entries up = are_groups entries_grouping entries up

-- a row's number is of an entry
pub row_entry : (entries : List Entry) (rows : List LabelRow) (row : LabelRow) (n : ℕ) → AreRowsOf entries rows → Contains rows row → Contains row.series n → Contains entries (entry_in row n)
row_entry entries _ row n are h i =
    let found = (are.each row h).only n i in
    let key = found.2 in
    let number = found.3 in
    subst (λ e. Contains entries e) (λ j. record { name = (key j).0; value = (key j).1; series = number j }) found.1

-- two rows of one label are one
pub one_row : (rows : List LabelRow) (one other : LabelRow) → AllPairs RowBefore rows → Contains rows one → Contains rows other → one.name ≡ other.name → one.value ≡ other.value → one ≡ other
one_row rows _ _ up h i name value = one_group entries_grouping _ _ _ up h i (λ j. (name j, value j))

-- ---- names

rows_grouping : IsGrouping (λ (row : LabelRow). row.name) (λ row. row.value) (λ (name : NameValues). name.name) (λ name. name.values) (λ n m. n < m) RowBefore have_same_name join_values values_of_row
rows_grouping = record {
  before_parts = λ x y b. b.is;
  irreflexive = λ n lt. omega arith;
  trans = λ a b c p q. omega arith;
  same_keys = λ a b is. eqb-true a.name b.name is;
  same_test = λ a b same. ap (λ n. n == b.name) same ∙ grind (arith, nat_tests);
  of_key = λ x. refl;
  of_numbers = λ x. refl;
  join_key = λ a b. refl;
  join_numbers = λ a b. refl;
}

pub grouped_names : (rows : List LabelRow) → AllPairs RowBefore rows → AreNamesOf rows (names_of rows)
unfolding names_of
grouped_names rows up = are_groups rows_grouping rows up

-- two of one name are one
pub one_name : (names : List NameValues) (one other : NameValues) → AllPairs NameBefore names → Contains names one → Contains names other → one.name ≡ other.name → one ≡ other
one_name _ _ _ up h i same = one_group rows_grouping _ _ _ up h i same
