-- Fields of an index, each refused with the place where it begins.
use Rattle.std.specs.Prelude.{ℕ, List, Result}
use Rattle.base.specs.Reading.{◌>>=◌, refused_as}
use Rattle.wire_bytes.specs.Position.{Position}
use Rattle.wire_bytes.specs.Fields.{bytes_at, uvarint_at}
use Rattle.wire_bytes.specs.declared.varint.WireRefusal.{WireRefusal}
use Rattle.wire_bytes.specs.declared.varint.WireRefusal.TheVariants as wire
use Rattle.index_parts.specs.declared.refusal.PartRefusal.{PartRefusal}
use Rattle.index_parts.specs.declared.refusal.PartRefusal.TheVariants.{Short, Overlong}

-- before the byte at a place
abbrev pub at_place : List ℕ → ℕ → Position
at_place index place = record { bytes = index; place = place }

abbrev pub refused_at : ℕ → WireRefusal → PartRefusal
refused_at place wire.Short = Short place
refused_at place wire.Overlong = Overlong place

-- a field, by how it is read
abbrev pub field : {A : Type 0} → (Position → Result (A × Position) WireRefusal) → Position → Result (A × Position) PartRefusal
field read p = refused_as (refused_at p.place) (read p)

-- bytes behind their length: the bytes are a field of their own
unfoldable pub text_at : Position → Result (List ℕ × Position) PartRefusal
text_at p = do
  size ← field uvarint_at p
  field (bytes_at size.0) size.1
