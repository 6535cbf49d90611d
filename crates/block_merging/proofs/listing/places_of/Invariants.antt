use Rattle.std.proofs.Common.{◌≡◌, map, take}
use Rattle.block_merging.specs.Queues.{place_pair, listed_pair}
use Rattle.block_merging.proofs.listing.places_of.Given as goal

abbrev pub invariant-loop-one : goal.invariant-loop-one
invariant-loop-one l = map place_pair l.places.items ≡ map listed_pair (take l.one-index l.series)
