-- The rows of a postings table that is made row by row, and how large it gets.
use Rattle.std.proofs.Common.{◌≡◌, ℕ, ◌+◌, ◌<◌, ◌≤◌, List, [], ◌∷◌, ◌++◌, length, get_or, drop, Result, Ok, Err, refl, sym, ap, ◌∙◌, subst, arith, inl}
use Rattle.std.specs.Prelude.{IfErr}
use Rattle.std.specs.Result.{IsErrAnd}
use Rattle.std.specs.List.{sum_by}
use Rattle.std.proofs.lemmas.List.{drop_more, drop_all}
use Rattle.std.proofs.lemmas.List.Sums.{sum_by-append, sum_by-cons}
use Rattle.index_parts.specs.declared.postings_row.PostingsRow.{PostingsRow}
use Rattle.index_writing.specs.declared.label_groups.LabelRow.{LabelRow}
use Rattle.index_writing.specs.declared.write_refusal.IndexWriteRefusal.{IndexWriteRefusal}
use Rattle.index_writing.specs.declared.write_refusal.IndexWriteRefusal.TheVariants.{TooLarge, NoMemory}
use Rattle.index_writing.specs.SymbolsInUse.{symbol_of}
use Rattle.index_writing.specs.WriteSteps.{greatest, Makes, Measures, row_size}
use Rattle.index_writing.specs.Written.{label_rows, table_rows}
use Rattle.index_writing.proofs.PairLists.{two_more, two_all}
use Rattle.index_writing.proofs.Walks.{front_is}

abbrev pub row_with : List (List ℕ) → LabelRow → ℕ → PostingsRow
row_with symbols row place = record { name = symbol_of symbols row.name; value = symbol_of symbols row.value; offset = place }

abbrev pub rows_with : List (List ℕ) → LabelRow → ℕ → List PostingsRow
rows_with symbols row place = row_with symbols row place ∷ []

pub rows_law : (symbols : List (List ℕ)) (row : LabelRow) (place : ℕ) (rows : List LabelRow) (places : List ℕ) → label_rows symbols (row ∷ rows) (place ∷ places) ≡ rows_with symbols row place ++ label_rows symbols rows places
unfolding label_rows
rows_law _ _ _ _ _ = refl

pub no_rows : (symbols : List (List ℕ)) (places : List ℕ) → label_rows symbols [] places ≡ []
unfolding label_rows
no_rows _ _ = refl

no_places : (symbols : List (List ℕ)) (rows : List LabelRow) → label_rows symbols rows [] ≡ []
unfolding label_rows
no_places _ [] = refl
no_places _ (row ∷ rows) = refl

abbrev pub row_of_all : ℕ → PostingsRow
row_of_all place = record { name = []; value = []; offset = place }

split_table : (symbols : List (List ℕ)) (rows : List LabelRow) (places others : List ℕ) (first : ℕ) → places ≡ first ∷ others → row_of_all first ∷ label_rows symbols rows others ≡ table_rows symbols rows places
unfolding table_rows
split_table symbols rows _ _ _ split = sym (ap (table_rows symbols rows) split)

pub table_start : (symbols : List (List ℕ)) (rows : List LabelRow) (places : List ℕ) (table : List PostingsRow) (made : PostingsRow) → length places ≡ length rows + 1 → made ≡ row_of_all (get_or places 0 0) → table ≡ made ∷ [] → table ++ label_rows symbols rows (drop 1 places) ≡ table_rows symbols rows places
table_start symbols rows places _ _ many is made_is =
    ap (λ l. l ++ label_rows symbols rows (drop 1 places)) made_is ∙ ap (λ r. r ∷ label_rows symbols rows (drop 1 places)) is
    ∙ split_table _ _ _ _ _ (drop_more places 0 0 (omega arith))

pub table_step : (symbols : List (List ℕ)) (rows : List LabelRow) (places : List ℕ) (i : ℕ) (row : LabelRow) (place : ℕ) (made : PostingsRow) (old new whole : List PostingsRow) → old ++ label_rows symbols (drop i rows) (drop (i + 1) places) ≡ whole → i < length rows → length places ≡ length rows + 1 → row ≡ get_or rows i row → place ≡ get_or places (i + 1) 0 → made ≡ row_with symbols row place → new ≡ old ++ made ∷ []
    → new ++ label_rows symbols (drop (i + 1) rows) (drop ((i + 1) + 1) places) ≡ whole
table_step symbols rows places i row place _ old new whole so_far lt many at by made_is is =
    two_more (label_rows symbols) (rows_with symbols) (rows_law _) _ _ _ _ row place old new whole (front_is rows i row row lt at) (front_is places (i + 1) place 0 (omega arith) by) so_far (is ∙ ap (λ (r : PostingsRow). old ++ r ∷ []) made_is)

pub table_end : (symbols : List (List ℕ)) (rows : List LabelRow) (left : List ℕ) (i : ℕ) (old whole : List PostingsRow) → old ++ label_rows symbols (drop i rows) left ≡ whole → length rows ≤ i → old ≡ whole
table_end symbols _ _ i _ _ so_far past = two_all (label_rows symbols) (no_rows _) (no_places _) _ _ _ _ (inl (drop_all i _ past)) so_far

-- ---- its size

pub size_first : (table : List PostingsRow) (made : PostingsRow) (place : ℕ) → made ≡ row_of_all place → table ≡ made ∷ [] → 4 ≡ sum_by row_size table
size_first _ made _ made_is is = omega (arith, ap (sum_by row_size) is, sum_by-cons row_size made [], ap row_size made_is)

pub size_more : (old new : List PostingsRow) (made : PostingsRow) (size grown : ℕ) → size ≡ sum_by row_size old → grown ≡ size + row_size made → new ≡ old ++ made ∷ [] → grown ≡ sum_by row_size new
size_more old _ made _ _ is more new_is = omega (arith, ap (sum_by row_size) new_is, sum_by-append row_size old (made ∷ []), sum_by-cons row_size made [])

-- the row that is next, of which the table has more
next_size : (symbols : List (List ℕ)) (rows : List LabelRow) (places : List ℕ) (i : ℕ) (row : LabelRow) (place : ℕ) (made : PostingsRow) (old whole : List PostingsRow) → old ++ label_rows symbols (drop i rows) (drop (i + 1) places) ≡ whole → i < length rows → length places ≡ length rows + 1 → row ≡ get_or rows i row → place ≡ get_or places (i + 1) 0 → made ≡ row_with symbols row place
    → sum_by row_size old + row_size made ≤ sum_by row_size whole
next_size symbols rows places i row place made old whole so_far lt many at by made_is =
    let left = label_rows symbols (drop (i + 1) rows) (drop ((i + 1) + 1) places) in
    let step = table_step _ _ _ i _ _ _ _ _ _ so_far lt many at by made_is refl in
    omega (arith, ap (sum_by row_size) step, sum_by-append row_size (old ++ made ∷ []) left, sum_by-append row_size old (made ∷ []), sum_by-cons row_size made [])

pub table_stop : {X : Type 0} (r : Result X IndexWriteRefusal) (given : IndexWriteRefusal) (symbols : List (List ℕ)) (rows : List LabelRow) (places : List ℕ) (i : ℕ) (row : LabelRow) (place : ℕ) (made : PostingsRow) (old whole : List PostingsRow) (size : ℕ) → IsErrAnd r (λ e. e ≡ given) → Measures (Err given) (size + row_size made) → size ≡ sum_by row_size old
    → old ++ label_rows symbols (drop i rows) (drop (i + 1) places) ≡ whole → i < length rows → length places ≡ length rows + 1 → row ≡ get_or rows i row → place ≡ get_or places (i + 1) 0 → made ≡ row_with symbols row place → IfErr r (λ e. e ≡ TooLarge → greatest < sum_by row_size whole)
table_stop (Ok x) _ _ _ _ i _ _ _ _ _ _ is measures size_is so_far lt many at by made_is = tt
table_stop (Err e) TooLarge symbols rows places i row place made old whole _ is measures size_is so_far lt many at by made_is = λ large. omega (arith, next_size symbols rows places i row place made old whole so_far lt many at by made_is)
table_stop (Err e) NoMemory _ _ _ i _ _ _ _ _ _ is measures size_is so_far lt many at by made_is = absurd measures

-- ---- what is too large at once

pub measured_stop : {X : Type 0} (r : Result X IndexWriteRefusal) (given : IndexWriteRefusal) (size : ℕ) (made text : List ℕ) → IsErrAnd r (λ e. e ≡ given) → Measures (Err given) size → (greatest < size → greatest < length text) → Makes r made text
measured_stop (Ok x) _ _ _ _ is measures large = absurd is
measured_stop {X} (Err e) TooLarge _ made text is measures large = subst (λ y. Makes {A = X} (Err y) made text) (sym is) (large measures)
measured_stop (Err e) NoMemory _ _ _ is measures large = absurd measures

pub refused_stop : {X : Type 0} (r : Result X IndexWriteRefusal) (given : IndexWriteRefusal) (size : ℕ) (made text : List ℕ) → IsErrAnd r (λ e. e ≡ given) → (given ≡ TooLarge → greatest < size) → (greatest < size → greatest < length text) → Makes r made text
refused_stop (Ok x) _ _ _ _ is measures large = absurd is
refused_stop {X} (Err e) TooLarge _ made text is measures large = subst (λ y. Makes {A = X} (Err y) made text) (sym is) (large (measures refl))
refused_stop {X} (Err e) NoMemory _ made text is measures large = subst (λ y. Makes {A = X} (Err y) made text) (sym is) tt
