-- How many members the lists have that an index gives, at most.
use Rattle.std.proofs.Common.{◌≡◌, ℕ, zero, suc, ◌+◌, ◌*◌, ◌<◌, ◌≤◌, Bool, true, false, List, [], ◌∷◌, length, map, Option, Some, Result, Ok, Err, refl, sym, ap, subst, ◌∙◌, arith}
use Rattle.std.proofs.lemmas.List.{length-map}
use Rattle.std.proofs.lemmas.List.Sums.{length-filter, count_by-le-length}
use Rattle.std.specs.Prelude.{slice_get, slice_index_or, MatchBool, IfOk, if◌then◌else◌}
use Rattle.std.specs.List.{All, filter}
use Rattle.std.specs.Str.{bytes_eq}
use Rattle.base.proofs.Membership.{contains_place}
use Rattle.index_parts.specs.declared.postings_row.PostingsRow.{PostingsRow}
use Rattle.index_parts.specs.Lists.{IsList}
use Rattle.index_parts.specs.Symbols.{IsNextSymbol}
use Rattle.index_parts.specs.Rows.{IsNextRow}
use Rattle.index_parts.proofs.ListLaws.{list_few}
use Rattle.index_parts.proofs.SymbolLaws.{symbol_size}
use Rattle.index_parts.proofs.PostingsLaws.{posting_size}
use Rattle.index_parts.proofs.RowLaws.{row_size}
use Rattle.index_parts.proofs.SeriesLaws as parts
use Rattle.index_parts.specs.declared.index_series.IndexSeries.{IndexSeries}
use Rattle.index_parts.specs.Opened.{Opened}
use Rattle.index_v2.specs.PostingsLists.{values_of}
use Rattle.index_parts.specs.IndexFile.{Holds, StandFor, IsOpened, IsSeriesOf, IsIndex, AreListed}

module _ {A : Type 0} (IsNext : Option A → List ℕ → A → Type 0) (least : ℕ) (size : (before : Option A) (text : List ℕ) (x : A) → IsNext before text x → least ≤ length text) (index : List ℕ) (reference : ℕ) (members : List A) where
  few_by : (absent : Bool) → MatchBool absent (members ≡ []) (IsList IsNext index reference members) → least * length members ≤ length index
  few_by true none = rw none (omega arith)
  few_by false is = list_few _ _ size _ _ _ is

  held_few : Holds (IsList IsNext) index reference members → least * length members ≤ length index
  held_few holds = few_by _ holds

pub opened_few : (opened : Opened) → IsOpened opened → (length opened.symbols ≤ length opened.bytes) × (4 * length opened.rows ≤ length opened.bytes)
opened_few _ is =
    let symbols = held_few IsNextSymbol 1 symbol_size _ _ _ is.symbols_are in
    let rows = held_few IsNextRow 4 row_size _ _ _ is.rows_are in
    (omega arith, rows)

-- texts that numbers stand for are as many
pub as_many : (symbols : List (List ℕ)) (numbers : List ℕ) (texts : List (List ℕ)) → StandFor symbols numbers texts → length numbers ≡ length texts
as_many _ _ _ stand = sym (length-map _ _) ∙ ap length stand ∙ length-map _ _

pub series_few : (index : List ℕ) (symbols : List (List ℕ)) (number : ℕ) (series : IndexSeries) → IsSeriesOf index symbols number series → 2 * length series.labels + 3 * length series.chunks ≤ length index
series_few index _ number series is =
    let raw = parts.series_few index (16 * number) (record { names = is.names; values = is.values; chunks = series.chunks }) is.stands in
    let names = as_many _ _ _ is.names_are in
    let values = as_many _ _ _ is.values_are in
    omega (arith, length-map series.labels (λ l. l.value))

values_few_by : (b : Bool) (rows : List PostingsRow) (name : List ℕ) → length (if b then [] else map (λ (row : PostingsRow). row.value) (filter (λ (row : PostingsRow). bytes_eq row.name name) rows)) ≤ length rows
values_few_by true _ _ = omega arith
values_few_by false rows name = omega (arith, length-map (filter (λ row. bytes_eq row.name name) rows) (λ row. row.value), length-filter (λ row. bytes_eq row.name name) rows, count_by-le-length (λ row. bytes_eq row.name name) rows)

pub values_few : (rows : List PostingsRow) (name : List ℕ) → length (values_of rows name) ≤ length rows
unfolding values_of
values_few _ _ = values_few_by _ _ _

-- ---- the whole

listed_few : (index : List ℕ) (rows : List PostingsRow) (numbers : List ℕ) → AreListed index rows numbers → 4 * length numbers ≤ length index
listed_few _ [] _ none = omega (arith, ap length none)
listed_few _ (row ∷ rows) _ is = list_few _ 4 posting_size _ _ _ is

listed_at : (listed : List (ℕ × IndexSeries)) (k : ℕ) (d : IndexSeries) → k < length (map (λ (one : ℕ × IndexSeries). one.1) listed) → (one : ℕ × IndexSeries) × (slice_get listed k ≡ Some one) × (slice_index_or (map (λ (one : ℕ × IndexSeries). one.1) listed) k d ≡ one.1)
listed_at [] k d lt = absurd (omega arith)
listed_at (one ∷ listed) zero d lt = (one, refl, refl)
listed_at (one ∷ listed) (suc k) d lt = listed_at listed k d (omega arith)

abbrev pub IsFew : List ℕ → IndexSeries → Type 0
IsFew index series = 2 * length series.labels + 3 * length series.chunks ≤ length index

pub whole_few : (index : List ℕ) (list : List IndexSeries) → IsIndex index list → (4 * length list ≤ length index) × All (IsFew index) list
whole_few index _ is =
    let numbers = listed_few _ _ _ is.series_are.numbers_are in
    let same = ap length is.list_is in
    let size = ap length is.bytes_are in (
      omega (arith, length-map is.listed (λ one. one.0), length-map is.listed (λ (one : ℕ × IndexSeries). one.1)),
      subst (All (IsFew index)) is.list_is (λ k d lt.
          let at = listed_at _ k d lt in
          subst (IsFew index) (sym at.2) (subst (λ bytes. IsFew bytes at.0.1) is.bytes_are (series_few _ _ _ _ (is.series_are.stand at.0.0 at.0.1 (contains_place _ k _ at.1))))),
    )

-- ---- from a call's clauses

pub opened_few_of : (index : List ℕ) (opened : Opened) → (opened.bytes ≡ index) × IsOpened opened → (length opened.symbols ≤ length index) × (4 * length opened.rows ≤ length index)
opened_few_of _ opened is = subst (λ bytes. (length opened.symbols ≤ length bytes) × (4 * length opened.rows ≤ length bytes)) is.0 (opened_few _ is.1)

pub if_ok : {X E : Type 0} (P Q : X → Type 0) (r : Result X E) → ((x : X) → P x → Q x) → IfOk r P → IfOk r Q
if_ok P Q (Ok x) one p = one x p
if_ok P Q (Err e) one p = tt
