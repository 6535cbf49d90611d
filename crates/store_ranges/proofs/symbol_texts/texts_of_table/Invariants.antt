use Rattle.std.proofs.Common.{◌≡◌, take}
use Rattle.std.specs.String.{string_bytes}
use Rattle.store_ranges.specs.TextPlaces.{AreTextsAt, texts_at}
use Rattle.store_ranges.proofs.symbol_texts.texts_of_table.Given as goal

abbrev pub invariant-loop-number : goal.invariant-loop-number
invariant-loop-number l = AreTextsAt (string_bytes l.all) l.places.items × (texts_at (string_bytes l.all) l.places.items ≡ take l.number l.table)
