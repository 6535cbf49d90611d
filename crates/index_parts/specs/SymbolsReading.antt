-- What reading a symbol table gives, or the first refusal.
use Rattle.std.specs.Prelude.{ℕ, ◌-◌, List, length, Option, Some, Result, Ok}
use Rattle.std.specs.Str.{is_utf8}
use Rattle.base.specs.Order.{comes_after}
use Rattle.base.specs.Reading.{◌>>=◌, ◌>>◌, unless}
use Rattle.wire_bytes.specs.Position.{Position}
use Rattle.label_sets.specs.Labels.{compare_texts}
use Rattle.index_parts.specs.declared.refusal.PartRefusal.{PartRefusal}
use Rattle.index_parts.specs.declared.refusal.PartRefusal.TheVariants.{Unordered, NotText}
use Rattle.index_parts.specs.Placed.{text_at}
use Rattle.index_parts.specs.ListReading.{list_at}

-- a symbol: its order is tested before its text
unfoldable pub symbol_at : Option (List ℕ) × Position → Result (List ℕ × (Option (List ℕ) × Position)) PartRefusal
symbol_at s = do
  symbol ← text_at s.1
  unless (comes_after compare_texts s.0 symbol.0) (Unordered s.1.place)
  unless (is_utf8 symbol.0) (NotText (symbol.1.place - length symbol.0))
  Ok (symbol.0, (Some symbol.0, symbol.1))

abbrev pub symbols_at : List ℕ → ℕ → Result (List (List ℕ)) PartRefusal
symbols_at = list_at symbol_at
