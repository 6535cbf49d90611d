-- What opening an index gives, or the first refusal.
use Rattle.std.specs.Prelude.{ℕ, List, [], length, nat_eq, slice_index, Result, Ok, ◌==◌, nat_le, if◌then◌else◌}
use Rattle.std.specs.List.{starts_with}
use Rattle.base.specs.Reading.{◌>>=◌, ◌>>◌, unless, refused_as}
use Rattle.index_parts.specs.declared.refusal.PartRefusal.{PartRefusal}
use Rattle.index_parts.specs.declared.refusal.PartRefusal.TheVariants as part
use Rattle.index_parts.specs.declared.toc_reading.Toc.{Toc}
use Rattle.index_parts.specs.ContentsReading.{toc_at}
use Rattle.index_parts.specs.SymbolsReading.{symbols_at}
use Rattle.index_parts.specs.RowsReading.{postings_table_at}
use Rattle.index_v2.specs.declared.refusal.IndexRefusal.{IndexRefusal}
use Rattle.index_v2.specs.declared.refusal.IndexRefusal.TheVariants.{BadMagic, BadVersion, BadTocSum, BadSection, BadSeries, NoMemory}
use Rattle.index_parts.specs.Opened.{Opened}
use Rattle.index_parts.specs.IndexFile.{magic, version, least_size}
use Rattle.index_parts.specs.Parts.{known}
use Rattle.index_v2.specs.declared.lent_parts.IndexParts.{IndexParts}
use Rattle.index_v2.specs.Held.{Held, symbols_of, table_of, held_of}

-- ---- the numbers of sections

abbrev pub contents_section : ℕ
contents_section = 0

abbrev pub symbols_section : ℕ
symbols_section = 1

abbrev pub series_section : ℕ
series_section = 2

abbrev pub postings_section : ℕ
postings_section = 5

abbrev pub table_section : ℕ
table_section = 6

-- ---- refusals

-- a refusal of a part, as that of its section
abbrev pub refused_in : ℕ → PartRefusal → IndexRefusal
refused_in section part.NoMemory = NoMemory
refused_in section refusal = BadSection section refusal

-- as that of a series
abbrev pub refused_of : ℕ → PartRefusal → IndexRefusal
refused_of number part.NoMemory = NoMemory
refused_of number refusal = BadSeries number refusal

-- as that of the table of contents, of which only the sum can be refused in a file that is long enough
abbrev pub refused_contents : PartRefusal → IndexRefusal
refused_contents (part.BadSum kept computed) = BadTocSum kept computed
refused_contents refusal = refused_in contents_section refusal

-- a section at its reference, which is absent where the reference is 0
abbrev pub held_at : {A : Type 0} → ℕ → (List ℕ → ℕ → Result (List A) PartRefusal) → List ℕ → ℕ → Result (List A) IndexRefusal
held_at section read index reference = if reference == 0 then Ok [] else refused_as (refused_in section) (read index reference)

-- ---- what is read

-- the length, the magic number, the version and the table of contents
unfoldable pub contents_at : List ℕ → Result Toc IndexRefusal
contents_at index = do
  unless (nat_le least_size (length index)) (BadSection contents_section (part.Short 0))
  unless (starts_with nat_eq index magic) BadMagic
  unless (slice_index index 4 == version) BadVersion
  refused_as refused_contents (toc_at index)

-- these, the symbols and the postings table
unfoldable pub opened_at : List ℕ → Result Opened IndexRefusal
opened_at index = do
  toc ← contents_at index
  symbols ← held_at symbols_section symbols_at index toc.symbols
  rows ← held_at table_section postings_table_at index toc.postings_table
  Ok (record { bytes = index; toc = toc; symbols = symbols; rows = rows })

-- the symbols and the postings table of parts of an index
unfoldable pub over_at : IndexParts → Result Held IndexRefusal
over_at parts = do
  symbols ← held_at symbols_section symbols_at (known (symbols_of parts)) parts.toc.symbols
  rows ← held_at table_section postings_table_at (known (table_of parts)) parts.toc.postings_table
  Ok (held_of parts symbols rows)
