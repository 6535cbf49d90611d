use Rattle.block_merging.proofs.WholeListing.{PlacesSoFar}
use Rattle.block_merging.proofs.listing.places_as_listed.Given as goal

abbrev pub invariant-loop-place : goal.invariant-loop-place
invariant-loop-place l = PlacesSoFar l.numbers l.indexed l.place l.places.items
