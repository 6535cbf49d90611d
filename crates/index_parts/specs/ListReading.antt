-- What reading a section that holds a list gives, or the first refusal.
use Rattle.std.specs.Prelude.{ℕ, List, Option, None, Result, Ok}
use Rattle.std.specs.Int.{w32}
use Rattle.base.specs.Reading.{◌>>=◌}
use Rattle.base.specs.Members.{members_at}
use Rattle.wire_bytes.specs.Position.{Position}
use Rattle.wire_bytes.specs.Fields.{number_at}
use Rattle.index_parts.specs.declared.refusal.PartRefusal.{PartRefusal}
use Rattle.index_parts.specs.Placed.{field}
use Rattle.index_parts.specs.Framing.{section_at}

-- so many members, each read by the same function from the one before it
unfoldable pub turns_at : {A : Type 0} → (Option A × Position → Result (A × (Option A × Position)) PartRefusal) → ℕ → Position → Result (List A) PartRefusal
turns_at read count p = do
  members ← members_at read count (None, p)
  Ok members.0

unfoldable pub list_at : {A : Type 0} → (Option A × Position → Result (A × (Option A × Position)) PartRefusal) → List ℕ → ℕ → Result (List A) PartRefusal
list_at read index at = do
  content ← section_at index at
  count ← field (number_at w32) content
  turns_at read count.0 count.1
