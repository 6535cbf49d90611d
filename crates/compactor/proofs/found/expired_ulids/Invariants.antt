use Rattle.std.proofs.Common.{◌≡◌, take}
use Rattle.compactor.specs.FoundNames.{names_of, expired_at}
use Rattle.compactor.proofs.found.expired_ulids.Given as goal

abbrev pub invariant-loop-block : goal.invariant-loop-block
invariant-loop-block l = l.ulids.items ≡ names_of (expired_at l.retention l.begun (take l.block-index l.blocks))
