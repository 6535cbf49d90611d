-- What is known of an index once it is opened.
use Rattle.std.specs.Prelude.{ℕ, List}
use Rattle.index_parts.specs.declared.toc_reading.Toc.{Toc}
use Rattle.index_parts.specs.declared.postings_row.PostingsRow.{PostingsRow}

-- its bytes, its table of contents, its symbols and the rows of its postings table
pub record Opened : Type 0 where
  pub bytes : List ℕ
  pub toc : Toc
  pub symbols : List (List ℕ)
  pub rows : List PostingsRow
