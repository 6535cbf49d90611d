-- Where texts stand among the symbols of an index, told by numbers: to compare these is to compare the texts.
use Rattle.std.specs.Prelude.{◌≡◌, ℕ, ◌+◌, ◌*◌, ◌-◌, ◌^◌, List, [], ◌∷◌, length, map, Option, Some, None, true, false, ◌<◌, ◌&&◌, ◌==◌, Result, Ok, slice_get, unwrap_or, nat_lt, if◌then◌else◌}
use Rattle.std.specs.declared.cmp.Ordering.{Ordering}
use Rattle.std.specs.List.Sorted.{IsStrictlySortedBy}
use Rattle.std.specs.Ordering.{nat_cmp, ordering_then}
use Rattle.base.specs.Reading.{◌>>=◌}
use Rattle.base.specs.Members.{members_at}
use Rattle.wire_bytes.specs.Position.{Position}
use Rattle.label_sets.specs.declared.label.Label.{Label}
use Rattle.label_sets.specs.Labels.{IsLabelSet, compare_texts}
use Rattle.index_parts.specs.declared.refusal.PartRefusal.{PartRefusal}
use Rattle.index_parts.specs.declared.raw_series.RawLabel.{RawLabel}
use Rattle.index_parts.specs.declared.postings_row.PostingsRow.{PostingsRow}
use Rattle.index_parts.specs.declared.index_series.IndexSeries.{IndexSeries}
use Rattle.index_parts.specs.Rows.{compare_rows}
use Rattle.index_parts.specs.RowOrder.{compare_row}
use Rattle.index_parts.specs.SeriesReading.{labels_begin_at, label_at}
use Rattle.index_v2.specs.declared.ranks.Ranks.{Ranks}

-- symbols as an index has them
pub record AreSymbols (symbols : List (List ℕ)) : Type 0 where
  pub ascend : IsStrictlySortedBy compare_texts symbols
  pub small : length symbols < 2 ^ 32

-- the name of the label before another one by its symbol number, and no text before the first
abbrev pub name_before : List (List ℕ) → Option ℕ → List ℕ
name_before symbols None = []
name_before symbols (Some number) = unwrap_or (slice_get symbols number) []

-- the order of ranks: by name and then by value
abbrev pub compare_ranks : Ranks → Ranks → Ordering
compare_ranks one other = ordering_then (nat_cmp one.name other.name) (nat_cmp one.value other.value)

-- The symbol of number n has the rank 2 n + 1, and a text has one that stands to these as the text stands to the symbols.
abbrev pub IsRankOf : List (List ℕ) → List ℕ → ℕ → Type 0
IsRankOf symbols text rank = (n : ℕ) (symbol : List ℕ) → slice_get symbols n ≡ Some symbol → nat_cmp rank (2 * n + 1) ≡ compare_texts text symbol

-- the rank of a symbol
pub record IsSymbolRank (symbols : List (List ℕ)) (text : List ℕ) (rank : ℕ) : Type 0 where
  pub number : ℕ
  pub stands : slice_get symbols number ≡ Some text
  pub rank_is : rank ≡ 2 * number + 1

-- ---- of labels, whose texts are symbols

pub record IsLabelRank (symbols : List (List ℕ)) (label : Label) (ranks : Ranks) : Type 0 where
  pub name_is : IsSymbolRank symbols label.name ranks.name
  pub value_is : IsSymbolRank symbols label.value ranks.value

abbrev pub AreLabelRanks : List (List ℕ) → List Label → List Ranks → Type 0
AreLabelRanks symbols [] [] = Unit {0}
AreLabelRanks symbols [] (r ∷ ranks) = ⊥
AreLabelRanks symbols (l ∷ labels) [] = ⊥
AreLabelRanks symbols (l ∷ labels) (r ∷ ranks) = IsLabelRank symbols l r × AreLabelRanks symbols labels ranks

pub record IsRanked (symbols : List (List ℕ)) (series : IndexSeries) (ranks : List Ranks) : Type 0 where
  pub labels : AreLabelRanks symbols series.labels ranks
  pub lawful : IsLabelSet series.labels

-- those of each of these series
pub record AreRanked (symbols : List (List ℕ)) (series : List IndexSeries) (ranks : List (List Ranks)) : Type 0 where
  pub many : length series ≡ length ranks
  pub each : (k : ℕ) (one : IndexSeries) (its : List Ranks) → slice_get series k ≡ Some one → slice_get ranks k ≡ Some its → IsRanked symbols one its

-- ---- of rows, whose texts need be no symbols

pub record IsRowRank (symbols : List (List ℕ)) (row : PostingsRow) (ranks : Ranks) : Type 0 where
  pub name_is : IsRankOf symbols row.name ranks.name
  pub value_is : IsRankOf symbols row.value ranks.value

pub record AreRowRanks (symbols : List (List ℕ)) (rows : List PostingsRow) (ranks : List Ranks) : Type 0 where
  pub many : length rows ≡ length ranks
  pub ascend : IsStrictlySortedBy compare_rows rows
  pub each : (k : ℕ) (row : PostingsRow) (its : Ranks) → slice_get rows k ≡ Some row → slice_get ranks k ≡ Some its → IsRowRank symbols row its

-- the row of all series, and any other by its ranks
abbrev pub TellsRow : List (List ℕ) → PostingsRow → Option Ranks → Type 0
TellsRow symbols row None = ((length row.name == 0) && (length row.value == 0)) ≡ true
TellsRow symbols row (Some ranks) = (((length row.name == 0) && (length row.value == 0)) ≡ false) × IsRowRank symbols row ranks

-- Ranks stand to others as rows stand to a name and a value.
pub record CompareAlike (rows : List PostingsRow) (ranks : List Ranks) (name value : List ℕ) (sought : Ranks) : Type 0 where
  pub many : length rows ≡ length ranks
  pub ascend : IsStrictlySortedBy compare_rows rows
  pub each : (k : ℕ) (row : PostingsRow) (its : Ranks) → slice_get rows k ≡ Some row → slice_get ranks k ≡ Some its → compare_ranks its sought ≡ compare_row row name value

-- ---- reading those of a series

-- a number that is no symbol's has the last rank
abbrev pub rank_of : ℕ → ℕ
rank_of number = if nat_lt number (2 ^ 32) then 2 * number + 1 else 2 ^ 64 - 1

abbrev pub ranks_of : RawLabel → Ranks
ranks_of label = record { name = rank_of label.name.number; value = rank_of label.value.number }

unfoldable pub ranks_at : ℕ → Position → Result (List Ranks) PartRefusal
ranks_at count p = do
  labels ← members_at label_at count p
  Ok (map ranks_of labels.0)

-- those of the labels of the series at a place
unfoldable pub series_ranks_at : List ℕ → ℕ → Result (List Ranks) PartRefusal
series_ranks_at index at = do
  begin ← labels_begin_at index at
  ranks_at begin.0 begin.1
