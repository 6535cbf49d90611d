use Rattle.std.proofs.Common.{◌++◌, take}
use Rattle.block_content.proofs.PlacesOnce.{Numbered, places_to}
use Rattle.block_content.proofs.reading_bound.all_numbers.Given as goal

abbrev pub invariant-loop-one : goal.invariant-loop-one
invariant-loop-one l = Numbered (places_to l.indexed l.one-index) l.numbers.items

abbrev pub invariant-loop-place : goal.invariant-loop-place
invariant-loop-place l = Numbered (places_to l.indexed l.one-index ++ take l.place-index l.place-items) l.numbers.items
