-- What a reader holds of an index: of a whole file, or of parts of one.
use Rattle.std.specs.Prelude.{◌≡◌, ◌⊎◌, ℕ, List, [], length, Option, IfSome}
use Rattle.index_parts.specs.declared.toc_reading.Toc.{Toc}
use Rattle.index_parts.specs.declared.postings_row.PostingsRow.{PostingsRow}
use Rattle.index_parts.specs.Opened.{Opened}
use Rattle.index_parts.specs.IndexFile.{IsOpened}
use Rattle.index_parts.specs.Parts.{Part, file, IsPartOf, HoldsSection}
use Rattle.index_v2.specs.declared.lent_parts.IndexParts.{IndexParts}

-- The bytes in which it reads series, which are none where it holds parts; the table of contents, the symbols and the rows of
-- the postings table; where it reads postings lists; and from how many bytes it read the symbols, and from how many the rows:
-- those of the whole file, or of their part.
pub record Held : Type 0 where
  pub bytes : List ℕ
  pub toc : Toc
  pub symbols : List (List ℕ)
  pub rows : List PostingsRow
  pub lists : Part
  pub symbols_size : ℕ
  pub rows_size : ℕ

-- what is held, as what is known of an index of these bytes once it is opened
abbrev pub opened_in : List ℕ → Held → Opened
opened_in index held = record { bytes = index; toc = held.toc; symbols = held.symbols; rows = held.rows }

abbrev pub opened_of : Held → Opened
opened_of held = opened_in held.bytes held

-- of a whole file
abbrev pub whole_file : Opened → Held
whole_file opened = record { bytes = opened.bytes; toc = opened.toc; symbols = opened.symbols; rows = opened.rows; lists = file opened.bytes; symbols_size = length opened.bytes; rows_size = length opened.bytes }

pub record IsWhole (held : Held) : Type 0 where
  pub is_opened : IsOpened (opened_of held)
  pub lists_are : held.lists ≡ file held.bytes
  pub symbols_size_is : held.symbols_size ≡ length held.bytes
  pub rows_size_is : held.rows_size ≡ length held.bytes

-- What is held is of this opened index: its table of contents, its symbols and its rows, a part of its bytes for the lists, and
-- for the series all of them or none.
pub record IsHeldOf (held : Held) (opened : Opened) : Type 0 where
  pub toc_is : held.toc ≡ opened.toc
  pub symbols_are : held.symbols ≡ opened.symbols
  pub rows_are : held.rows ≡ opened.rows
  pub lists_are : IsPartOf held.lists opened.bytes
  pub series_are : (held.bytes ≡ []) ⊎ (held.bytes ≡ opened.bytes)

-- a reader of this opened index: of its bytes, or of parts of them
abbrev pub IsReaderOf : Held → Opened → Type 0
IsReaderOf held opened = (held.bytes ≡ opened.bytes) ⊎ IsHeldOf held opened

-- Such a reader has the list of a row, if there is one: that of the whole bytes has every list, and one of parts those that lie
-- within the part in which it reads lists.
abbrev pub HasList : Held → Opened → Option PostingsRow → Type 0
HasList held opened row = (held.bytes ≡ opened.bytes) ⊎ (IsHeldOf held opened × IfSome row (λ r. HoldsSection held.lists r.offset))

-- ---- the parts that are handed to a reader, each at its reference

abbrev pub symbols_of : IndexParts → Part
symbols_of parts = record { begin = parts.toc.symbols; bytes = parts.symbols.now }

abbrev pub table_of : IndexParts → Part
table_of parts = record { begin = parts.toc.postings_table; bytes = parts.table.now }

abbrev pub lists_of : IndexParts → Part
lists_of parts = record { begin = parts.toc.postings; bytes = parts.postings.now }

-- they are slices of these bytes
pub record AreSlicesOf (parts : IndexParts) (index : List ℕ) : Type 0 where
  pub symbols_are : IsPartOf (symbols_of parts) index
  pub table_is : IsPartOf (table_of parts) index
  pub lists_are : IsPartOf (lists_of parts) index

-- each of the two tables lies within its part, if there is one
pub record HoldTables (parts : IndexParts) : Type 0 where
  pub symbols_lie : (parts.toc.symbols ≡ 0) ⊎ HoldsSection (symbols_of parts) parts.toc.symbols
  pub table_lies : (parts.toc.postings_table ≡ 0) ⊎ HoldsSection (table_of parts) parts.toc.postings_table

-- what a reader over them holds, with these symbols and these rows
abbrev pub held_of : IndexParts → List (List ℕ) → List PostingsRow → Held
held_of parts symbols rows = record { bytes = []; toc = parts.toc; symbols = symbols; rows = rows; lists = lists_of parts; symbols_size = length parts.symbols.now; rows_size = length parts.table.now }
