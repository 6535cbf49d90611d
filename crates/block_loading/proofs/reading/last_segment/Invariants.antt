use Rattle.std.proofs.Common.{◌≡◌, take}
use Rattle.block_loading.specs.Loading.{last_segment}
use Rattle.block_loading.proofs.reading.last_segment.Given as goal

abbrev pub invariant-loop-one : goal.invariant-loop-one
invariant-loop-one l = l.last ≡ last_segment (take l.one-index l.indexed)
