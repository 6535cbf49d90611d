use Rattle.std.proofs.Common.{◌≡◌, take}
use Rattle.compactor.specs.FoundNames.{names_of}
use Rattle.compactor.proofs.found.found_ulids.Given as goal

abbrev pub invariant-loop-block : goal.invariant-loop-block
invariant-loop-block l = l.ulids.items ≡ names_of (take l.block-index l.blocks)
