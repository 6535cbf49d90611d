use Rattle.store_ranges.specs.ChunkRanges.{IsNear}
use Rattle.store_ranges.proofs.Cutting.{IsCutUpto}
use Rattle.store_ranges.proofs.groups.groups_of_references.Given as goal

abbrev pub invariant-loop-place : goal.invariant-loop-place
invariant-loop-place l = IsCutUpto IsNear l.references l.groups.items l.start l.place
