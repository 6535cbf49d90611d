-- Sections that hold a list: symbols, series numbers, rows of a table.
use Rattle.std.specs.Prelude.{◌≡◌, ℕ, List, ◌++◌, length, Option, None}
use Rattle.std.specs.Int.{w32, to_be_bytes}
use Rattle.std.specs.List.{flat_map}
use Rattle.wire_bytes.specs.FieldTexts.{IsFixed}
use Rattle.index_parts.specs.Turns.{AreInTurn}
use Rattle.index_parts.specs.Framed.{IsSection, section_text}

-- At a place of the index stands a section of how many members a list has, in four bytes, and the members, each told from the
-- one before it; bytes may be left over.
pub record IsList {A : Type 0} (IsNext : Option A → List ℕ → A → Type 0) (index : List ℕ) (at : ℕ) (members : List A) : Type 0 where
  pub content : List ℕ
  pub count : List ℕ
  pub texts : List ℕ
  pub left_over : List ℕ
  pub section : IsSection index at content
  pub content_is : content ≡ count ++ texts ++ left_over
  pub count_is : IsFixed w32 count (length members)
  pub texts_are : AreInTurn IsNext None texts members

-- ---- what a writer puts, by what it puts for a member

abbrev pub list_content : {A : Type 0} → (A → List ℕ) → List A → List ℕ
list_content text_of members = to_be_bytes w32 (length members) ++ flat_map text_of members

abbrev pub list_text : {A : Type 0} → (A → List ℕ) → List A → List ℕ
list_text text_of members = section_text (list_content text_of members)
