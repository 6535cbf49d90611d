use Rattle.std.proofs.Common.{◌≡◌, map, take}
use Rattle.sync_filters.specs.Filters.{is_covered}
use Rattle.sync_filters.proofs.coverage.covered_places.Given as goal

abbrev pub invariant-loop-block : goal.invariant-loop-block
invariant-loop-block l = l.covered.items ≡ map (is_covered l.listed) (take l.block-index l.listed)
