use Rattle.block_content.specs.StoredPlaces.{AreFound}
use Rattle.block_content.proofs.CountsSoFar.{CountedSoFar}
use Rattle.block_content.proofs.counting.count_series.Given as goal

abbrev pub invariant-loop-place : goal.invariant-loop-place
invariant-loop-place l = record {
  counted : CountedSoFar l.meta l.segments l.chunks l.place-index l.bytes l.samples l.outside l.chunk;
  kept : AreFound l.meta l.segments l.places;
}
