use Rattle.block_content.specs.StoredPlaces.{AreFound}
use Rattle.block_content.proofs.CountsSoFar.{AllSoFar}
use Rattle.block_content.proofs.counting.count_all.Given as goal

abbrev pub invariant-loop-one : goal.invariant-loop-one
invariant-loop-one l = record {
  counted : AllSoFar l.meta l.segments l.indexed l.one-index l.bytes l.samples l.outside l.series;
  kept : AreFound l.meta l.segments l.places;
}
