-- Parts of an index: bytes of it, by the place at which they begin.
use Rattle.std.specs.Prelude.{◌≡◌, ℕ, zero, suc, Bool, false, ◌+◌, ◌-◌, ◌≤◌, List, ◌++◌, length, replicate, sum_by, Result, Ok, Err, nat_le, nat_lt, if◌then◌else◌}
use Rattle.std.specs.Result.{IsOkAnd}
use Rattle.std.specs.Int.{w32}
use Rattle.wire_bytes.specs.declared.varint.WireRefusal.{WireRefusal}
use Rattle.wire_bytes.specs.Position.{Position}
use Rattle.wire_bytes.specs.Fields.{number_at, uvarint_at}
use Rattle.index_parts.specs.declared.refusal.PartRefusal.{PartRefusal}
use Rattle.index_parts.specs.declared.refusal.PartRefusal.TheVariants.{Short}
use Rattle.index_parts.specs.Placed.{at_place}
use Rattle.index_parts.specs.PostingsReading.{postings_at}
use Rattle.index_parts.specs.declared.part_sections.IndexPart.{IndexPart}
use Rattle.index_parts.specs.declared.postings_row.PostingsRow.{PostingsRow}

pub record Part : Type 0 where
  pub begin : ℕ
  pub bytes : List ℕ

-- a part that lends its bytes
abbrev pub part_of : IndexPart → Part
part_of part = record { begin = part.begin; bytes = part.bytes.now }

-- a file that is there whole
abbrev pub file : List ℕ → Part
file index = record { begin = 0; bytes = index }

-- The index as far as a part's end. What stands before the part is never read there, so zeros may stand for it.
abbrev pub known : Part → List ℕ
known part = replicate part.begin 0 ++ part.bytes

-- the part's bytes stand in an index at the part's place
pub record IsPartOf (part : Part) (index : List ℕ) : Type 0 where
  pub before : List ℕ
  pub after : List ℕ
  pub begins : length before ≡ part.begin
  pub stands : index ≡ before ++ part.bytes ++ after

-- whether a place stands before the begin of a part: before 0 there is none
abbrev pub is_before : ℕ → ℕ → Bool
is_before at zero = false
is_before at (suc begin) = nat_le at begin

-- the postings list at a place, which is not there before the part
abbrev pub list_in : Part → ℕ → Result (List ℕ) PartRefusal
list_in part at = if is_before at part.begin then Err (Short at) else postings_at (known part) at

-- What stands at a place behind its length, which is read in this way, ends with its sum within the part.
abbrev pub LiesIn : (Position → Result (ℕ × Position) WireRefusal) → Part → ℕ → Type 0
LiesIn size_at part at = (part.begin ≤ at) × IsOkAnd (size_at (at_place part.bytes (at - part.begin))) (λ size. size.1.place + size.0 + 4 ≤ length part.bytes)

-- a section, and a series
abbrev pub HoldsSection : Part → ℕ → Type 0
HoldsSection = LiesIn (number_at w32)

abbrev pub HoldsSeries : Part → ℕ → Type 0
HoldsSeries = LiesIn uvarint_at

-- ---- how long lists are said to be

-- the length that is read, and nothing where none is
abbrev pub told : Result (ℕ × Position) WireRefusal → ℕ
told (Ok size) = size.0
told (Err e) = 0

-- how many bytes the content of the postings list at a place is said to have, and nothing before the part
abbrev pub list_size : Part → ℕ → ℕ
list_size part at = if nat_lt at part.begin then 0 else told (number_at w32 (at_place part.bytes (at - part.begin)))

-- of the lists of rows, each as often as a row names it
abbrev pub lists_size : Part → List PostingsRow → ℕ
lists_size part rows = sum_by (λ (row : PostingsRow). list_size part row.offset) rows
