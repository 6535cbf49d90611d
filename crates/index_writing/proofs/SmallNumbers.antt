-- In an index that is not too long, the numbers of series and of symbols have 32 bits.
use Rattle.std.proofs.Common.{ℕ, ◌^◌, ◌<◌, ◌≤◌, Bool, true, false, cond, List, [], ◌∷◌, ◌++◌, length, map, zip, arith, length-append}
use Rattle.std.specs.List.{All, AllByRecursion}
use Rattle.std.proofs.lemmas.List.Elements.{All-from_recursion}
use Rattle.std.proofs.lemmas.List.Sums.{prefix_len-le-length}
use Rattle.label_sets.specs.declared.label.Label.{Label}
use Rattle.label_sets.specs.Ordered.{in_order}
use Rattle.index_parts.specs.declared.raw_series.RawSeries.{RawSeries}
use Rattle.index_parts.specs.Framed.{text_field}
use Rattle.index_parts.specs.SeriesEntry.{series_text}
use Rattle.index_writing.proofs.Writing.{few_members, text_field_size}
use Rattle.index_parts.specs.declared.index_series.IndexSeries.{IndexSeries}
use Rattle.index_writing.specs.declared.label_groups.Entry.{Entry}
use Rattle.index_writing.specs.declared.label_groups.LabelRow.{LabelRow}
use Rattle.index_writing.specs.declared.label_groups.NameValues.{NameValues}
use Rattle.index_writing.specs.SymbolsInUse.{symbols_of, number_of, raw_of}
use Rattle.index_writing.specs.LabelGroups.{entries_of, all_entries, with_first, grouped, rows_of, names_of}
use Rattle.index_writing.specs.Aligned.{padded, each_at, places_at}
use Rattle.index_writing.specs.WriteSteps.{greatest}
use Rattle.index_writing.specs.Written.{HaveSmallNumbers, up_to_symbols, numbers_behind, with_series, parts_of}
use Rattle.index_writing.proofs.AlignedTexts.{each_longer}
use Rattle.base.proofs.Lists.{AllByRecursion-weaker, AllByRecursion-append, AllByRecursion-map}
use Rattle.base.proofs.Membership.{all_members, each_member, of_in_order}
use Rattle.index_writing.proofs.SectionSizes.{list_least}

-- ---- what holds of each member

all_in_order : {A : Type 0} (P : A → Type 0) (less : A → A → Bool) (xs : List A) → AllByRecursion P xs → AllByRecursion P (in_order less xs)
all_in_order P less xs all = all_members P _ (λ x h. each_member P xs x all (of_in_order less x xs h))

all_first : {A : Type 0} (P : A → Type 0) (b : Bool) (xs ys : List A) → AllByRecursion P xs → AllByRecursion P ys → AllByRecursion P (cond b xs ys)
all_first P true _ _ p q = p
all_first P false _ _ p q = q

all_with_first : {A : Type 0} (P : A → Type 0) (same : A → A → Bool) (join : A → A → A) → ((a b : A) → P a → P b → P (join a b)) → (x : A) (ys : List A) → P x → AllByRecursion P ys → AllByRecursion P (with_first same join x ys)
all_with_first P _ _ joins x [] one all = (one, tt)
all_with_first P same join joins x (y ∷ ys) one all = all_first P (same x y) (join x y ∷ ys) (x ∷ y ∷ ys) (joins x y one all.0, all.1) (one, all)

all_grouped : {A : Type 0} (P : A → Type 0) (same : A → A → Bool) (join : A → A → A) → ((a b : A) → P a → P b → P (join a b)) → (xs : List A) → AllByRecursion P xs → AllByRecursion P (grouped same join xs)
unfolding grouped
all_grouped P _ _ joins [] all = tt
all_grouped P same join joins (x ∷ xs) all = all_with_first P same _ joins x (grouped same join xs) all.0 (all_grouped P same join joins xs all.1)

-- ---- series numbers

abbrev IsSmall : ℕ → Type 0
IsSmall n = n < 2 ^ 32

places_below : (unit : ℕ) (text : List ℕ) (texts : List (List ℕ)) → AllByRecursion (λ place. place ≤ length (each_at unit text texts)) (places_at unit text texts)
unfolding each_at places_at
places_below _ _ [] = tt
places_below unit text (next ∷ texts) = (omega (arith, each_longer unit (padded unit text ++ next) texts, length-append (padded unit text) next), places_below unit (padded unit text ++ next) texts)

numbers_small : (before : List ℕ) (series : List RawSeries) → length (each_at 16 before (map series_text series)) ≤ greatest → AllByRecursion IsSmall (numbers_behind before series)
numbers_small _ _ room =
    AllByRecursion-map _ _ _ (λ place le. omega arith) _ (places_below _ _ _)

-- ---- symbol numbers

number_within : (symbols : List (List ℕ)) (text : List ℕ) → number_of symbols text ≤ length symbols
unfolding number_of
number_within _ _ = prefix_len-le-length _ _

-- there are no more symbols than bytes
symbols_few : (symbols : List (List ℕ)) → length symbols ≤ length (up_to_symbols symbols)
unfolding up_to_symbols
symbols_few symbols = omega (arith, few_members text_field text_field_size symbols, list_least text_field symbols)

-- ---- the labels of series

abbrev HasSmallValues : RawSeries → Type 0
HasSmallValues series = AllByRecursion IsSmall series.values

each_number : (f : Label → List ℕ) (symbols : List (List ℕ)) (labels : List Label) → length symbols < 2 ^ 32 → AllByRecursion IsSmall (map (λ l. number_of symbols (f l)) labels)
each_number f _ [] few = tt
each_number f symbols (l ∷ labels) few = (omega (arith, number_within symbols (f l)), each_number f symbols labels few)

raws_small : (symbols : List (List ℕ)) (list : List IndexSeries) → length symbols < 2 ^ 32 → AllByRecursion HasSmallValues (map (raw_of symbols) list)
unfolding raw_of
raws_small _ [] few = tt
raws_small symbols (series ∷ list) few = (each_number (λ l. l.value) symbols series.labels few, raws_small symbols list few)

abbrev IsSmallEntry : Entry → Type 0
IsSmallEntry entry = IsSmall entry.value × IsSmall entry.series

pairs_small : (names values : List ℕ) (number : ℕ) → AllByRecursion IsSmall values → IsSmall number → AllByRecursion IsSmallEntry (map (λ (label : ℕ × ℕ). record { name = label.0; value = label.1; series = number }) (zip names values))
pairs_small [] _ _ all small = tt
pairs_small (name ∷ names) [] _ all small = tt
pairs_small (name ∷ names) (value ∷ values) _ all small = ((all.0, small), pairs_small names _ _ all.1 small)

entries_small : (series : List RawSeries) (numbers : List ℕ) → AllByRecursion HasSmallValues series → AllByRecursion IsSmall numbers → AllByRecursion IsSmallEntry (all_entries series numbers)
unfolding all_entries entries_of
entries_small [] _ values small = tt
entries_small (one ∷ series) [] values small = tt
entries_small (one ∷ series) (number ∷ numbers) values small =
    AllByRecursion-append _ _ _ (pairs_small _ _ _ values.0 small.0) (entries_small series _ values.1 small.1)

-- ---- rows and names

abbrev IsSmallRow : LabelRow → Type 0
IsSmallRow row = IsSmall row.value × AllByRecursion IsSmall row.series

rows_small : (entries : List Entry) → AllByRecursion IsSmallEntry entries → AllByRecursion IsSmallRow (rows_of entries)
unfolding rows_of
rows_small entries small =
    all_grouped _ _ _ (λ a b p q. (p.0, AllByRecursion-append _ _ _ p.1 q.1)) _
    (AllByRecursion-map _ _ _ (λ entry p. (p.0, (p.1, tt))) _ (all_in_order _ _ _ small))

abbrev IsSmallName : NameValues → Type 0
IsSmallName name = AllByRecursion IsSmall name.values

names_small : (rows : List LabelRow) → AllByRecursion IsSmallRow rows → AllByRecursion IsSmallName (names_of rows)
unfolding names_of
names_small _ small =
    all_grouped _ _ _ (λ a b p q. AllByRecursion-append IsSmall a.values b.values p q) _
    (AllByRecursion-map _ _ _ (λ row p. (p.0, tt)) _ small)

-- ---- all of them

pub parts_small : (list : List IndexSeries) → length (with_series (parts_of list)) ≤ greatest → HaveSmallNumbers (parts_of list)
unfolding parts_of with_series
parts_small list room =
    let symbols = symbols_of list in
    let series = map (raw_of symbols) list in
    let front = up_to_symbols symbols in
    let numbers = numbers_behind front series in
    let few : length symbols < 2 ^ 32 = omega (arith, symbols_few symbols, each_longer 16 front (map series_text series), room) in
    let small : AllByRecursion IsSmall numbers = numbers_small _ _ room in
    let rows : AllByRecursion IsSmallRow (rows_of (all_entries series numbers)) = rows_small _ (entries_small _ _ (raws_small _ _ few) small) in
    record {
      numbers = All-from_recursion IsSmall numbers small;
      rows = AllByRecursion-weaker IsSmallRow (λ row. All IsSmall row.series) (λ row p. All-from_recursion IsSmall row.series p.1) (rows_of (all_entries series numbers)) rows;
      names = AllByRecursion-weaker IsSmallName (λ name. All IsSmall name.values) (λ name p. All-from_recursion IsSmall name.values p) (names_of (rows_of (all_entries series numbers))) (names_small (rows_of (all_entries series numbers)) rows);
    }
