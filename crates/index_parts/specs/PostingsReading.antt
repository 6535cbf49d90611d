-- What reading a postings list gives, or the first refusal.
use Rattle.std.specs.Prelude.{ℕ, List, Option, Some, Result, Ok}
use Rattle.std.specs.Int.{w32}
use Rattle.std.specs.Ordering.{nat_cmp}
use Rattle.base.specs.Order.{comes_after}
use Rattle.base.specs.Reading.{◌>>=◌, ◌>>◌, unless}
use Rattle.wire_bytes.specs.Position.{Position}
use Rattle.wire_bytes.specs.Fields.{number_at}
use Rattle.index_parts.specs.declared.refusal.PartRefusal.{PartRefusal}
use Rattle.index_parts.specs.declared.refusal.PartRefusal.TheVariants.{Unordered}
use Rattle.index_parts.specs.Placed.{field}
use Rattle.index_parts.specs.ListReading.{list_at}

unfoldable pub posting_at : Option ℕ × Position → Result (ℕ × (Option ℕ × Position)) PartRefusal
posting_at s = do
  number ← field (number_at w32) s.1
  unless (comes_after nat_cmp s.0 number.0) (Unordered s.1.place)
  Ok (number.0, (Some number.0, number.1))

abbrev pub postings_at : List ℕ → ℕ → Result (List ℕ) PartRefusal
postings_at = list_at posting_at
