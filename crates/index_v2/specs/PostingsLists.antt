-- Rows of the postings table, and what reading their lists gives.
use Rattle.std.specs.Prelude.{ℕ, List, [], length, map, find, Option, Some, None, Bool, ◌&&◌, Result, Ok, ◌==◌, if◌then◌else◌}
use Rattle.std.specs.List.{filter}
use Rattle.std.specs.Str.{bytes_eq}
use Rattle.base.specs.Reading.{refused_as}
use Rattle.index_parts.specs.declared.postings_row.PostingsRow.{PostingsRow}
use Rattle.index_parts.specs.Parts.{Part, list_in}
use Rattle.index_v2.specs.declared.refusal.IndexRefusal.{IndexRefusal}
use Rattle.index_v2.specs.Held.{Held}
use Rattle.index_v2.specs.Opening.{refused_in, postings_section}

-- a row of this name and this value
abbrev pub is_row_of : List ℕ → List ℕ → PostingsRow → Bool
is_row_of name value row = bytes_eq row.name name && bytes_eq row.value value

-- the row of a name and a value, which is one at most
unfoldable pub row_of : List PostingsRow → List ℕ → List ℕ → Option PostingsRow
row_of rows name value = find (is_row_of name value) rows

-- the list of a row, and the empty list where there is no row
abbrev pub list_of : Part → Option PostingsRow → Result (List ℕ) IndexRefusal
list_of part None = Ok []
list_of part (Some row) = refused_as (refused_in postings_section) (list_in part row.offset)

-- the numbers of the series that the table lists under a name and a value
abbrev pub postings_of : Held → List ℕ → List ℕ → Result (List ℕ) IndexRefusal
postings_of held name value = list_of held.lists (row_of held.rows name value)

-- the values of the rows under a name, ascending; no label has an empty name
unfoldable pub values_of : List PostingsRow → List ℕ → List (List ℕ)
values_of rows name = if length name == 0 then [] else map (λ row. row.value) (filter (λ row. bytes_eq row.name name) rows)
