use Rattle.std.proofs.Common.{◌≡◌, take}
use Rattle.compactor.specs.Named.{last_named}
use Rattle.compactor.proofs.named.last_named.Given as goal

abbrev pub invariant-loop-one : goal.invariant-loop-one
invariant-loop-one l = l.last ≡ last_named (take l.one-index l.indexed)
