-- What reading a section's frame gives: a position before its content, among the bytes up to the content's end, or the first
-- refusal. The sum is tested before anything of the content is read.
use Rattle.std.specs.Prelude.{ℕ, List, take, Result, Ok, ◌==◌}
use Rattle.std.specs.Int.{w32}
use Rattle.base.specs.Reading.{◌>>=◌, ◌>>◌, unless, refused_as}
use Rattle.wire_bytes.specs.Position.{Position}
use Rattle.wire_bytes.specs.Fields.{number_at, uvarint_at, bytes_at}
use Rattle.wire_bytes.specs.Crc.{crc}
use Rattle.wire_bytes.specs.declared.varint.WireRefusal.{WireRefusal}
use Rattle.index_parts.specs.declared.refusal.PartRefusal.{PartRefusal}
use Rattle.index_parts.specs.declared.refusal.PartRefusal.TheVariants.{Short, BadSum}
use Rattle.index_parts.specs.Placed.{at_place, field}

-- so many bytes and their sum, of a section that begins at a place
unfoldable pub summed_at : ℕ → ℕ → Position → Result Position PartRefusal
summed_at at size p = do
  content ← refused_as (λ _. Short at) (bytes_at size p)
  kept ← refused_as (λ _. Short at) (number_at w32 content.1)
  unless (kept.0 == crc content.0) (BadSum kept.0 (crc content.0))
  Ok (at_place (take content.1.place p.bytes) p.place)

-- the content at a place, behind its length, by how that is read
unfoldable pub framed_at : (Position → Result (ℕ × Position) WireRefusal) → List ℕ → ℕ → Result Position PartRefusal
framed_at size_at index at = do
  size ← field size_at (at_place index at)
  summed_at at size.0 size.1

-- a section, whose length has four bytes
abbrev pub section_at : List ℕ → ℕ → Result Position PartRefusal
section_at = framed_at (number_at w32)

-- an entry, whose length is in base 128
abbrev pub entry_at : List ℕ → ℕ → Result Position PartRefusal
entry_at = framed_at uvarint_at
