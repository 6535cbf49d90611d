-- Which ranges of an index are read: its table of contents, three sections, and runs of series.
use Rattle.std.specs.Prelude.{◌≡◌, ℕ, ◌-◌, ◌*◌, min, List, [], ◌∷◌, fold, find, unwrap_or, Option, Some, None, Bool, ◌&&◌, nat_lt}
use Rattle.std.specs.List.{filter}
use Rattle.std.specs.Option.{option_map_or}
use Rattle.index_parts.specs.declared.toc_reading.Toc.{Toc}
use Rattle.index_parts.specs.Contents.{references_of, contents_size}
use Rattle.index_parts.specs.IndexFile.{series_unit}
use Rattle.store_ranges.specs.Stretches.{Stretch, members, last_of, AreStretches}

-- bytes of an object that stand one behind another
pub record Piece : Type 0 where
  pub from : ℕ
  pub len : ℕ

-- those from one place up to another, of which there are none where the other does not come behind it
abbrev pub between : ℕ → ℕ → Piece
between from end = record { from = from; len = end - from }

abbrev pub has_bytes : Piece → Bool
has_bytes piece = nat_lt 0 piece.len

-- ---- the table of contents and the sections

-- the table of contents of an index of so many bytes
abbrev pub contents_piece : ℕ → Piece
contents_piece size = record { from = size - contents_size; len = contents_size }

-- the least of these numbers, if there are any
abbrev pub least : List ℕ → Option ℕ
least [] = None
least (number ∷ numbers) = Some (fold min number numbers)

-- the lesser of a number and another, if there is one
abbrev pub with_less : Option ℕ → ℕ → ℕ
with_less None number = number
with_less (Some other) number = min other number

-- What stands at a place ends at the least reference above it, or at the table of contents where there is none.
unfoldable pub end_of : Toc → ℕ → ℕ → ℕ
end_of toc size place = unwrap_or (least (filter (nat_lt place) (references_of toc))) (size - contents_size)

-- the section at a reference
abbrev pub section_piece : Toc → ℕ → ℕ → Piece
section_piece toc size place = between place (end_of toc size place)

-- Symbols, series, postings lists and postings table are there, and each of the sections that are read has bytes.
abbrev pub has_sections : Toc → ℕ → Bool
has_sections toc size =
    nat_lt 0 toc.symbols && nat_lt 0 toc.series && nat_lt 0 toc.postings && nat_lt 0 toc.postings_table
    && has_bytes (section_piece toc size toc.symbols)
    && has_bytes (section_piece toc size toc.postings_table)
    && has_bytes (section_piece toc size toc.postings)

-- ---- runs of series

-- the number behind this one in a list that ascends
abbrev pub behind : List ℕ → ℕ → Option ℕ
behind all number = find (nat_lt number) all

-- One series follows another in the list of all series.
abbrev pub Follows : List ℕ → ℕ → ℕ → Type 0
Follows all one other = behind all one ≡ Some other

-- The longest runs of series, of these, that follow one another in the list of all series.
abbrev pub AreRuns : List ℕ → List ℕ → List (Stretch ℕ) → Type 0
AreRuns all numbers runs = AreStretches (Follows all) numbers runs

-- A series stands at sixteen times its number. A run goes up to the series that follows its last one, or to the end of what
-- stands there where none follows.
abbrev pub run_end : Toc → ℕ → List ℕ → ℕ → ℕ
run_end toc size all last = option_map_or (λ next. series_unit * next) (behind all last) (end_of toc size (series_unit * last))

abbrev pub run_piece : Toc → ℕ → List ℕ → Stretch ℕ → Piece
run_piece toc size all run = between (series_unit * run.first) (run_end toc size all (last_of run))

-- the range of a run, and the numbers of the series in it
pub record Run : Type 0 where
  pub piece : Piece
  pub numbers : List ℕ

abbrev pub run_of : Toc → ℕ → List ℕ → Stretch ℕ → Run
run_of toc size all run = record { piece = run_piece toc size all run; numbers = members run }
