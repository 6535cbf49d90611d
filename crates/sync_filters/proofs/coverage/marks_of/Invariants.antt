use Rattle.std.proofs.Common.{◌≡◌, map, take}
use Rattle.sync_filters.specs.Holders.{mark_at}
use Rattle.sync_filters.proofs.coverage.marks_of.Given as goal

abbrev pub invariant-loop-block : goal.invariant-loop-block
invariant-loop-block l = l.made.items ≡ map mark_at (take l.block-index l.listed)
