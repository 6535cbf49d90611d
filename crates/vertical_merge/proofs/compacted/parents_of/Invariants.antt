use Rattle.std.proofs.Common.{◌≡◌, map, take}
use Rattle.vertical_merge.specs.Compacted.{parent_of}
use Rattle.vertical_merge.proofs.compacted.parents_of.Given as goal

abbrev pub invariant-loop-meta : goal.invariant-loop-meta
invariant-loop-meta l = l.made ≡ map parent_of (take l.meta-index l.metas)
