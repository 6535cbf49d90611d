use Rattle.std.proofs.Common.{◌≡◌, fold, max, map, take}
use Rattle.compactor.specs.Named.{segment_number}
use Rattle.compactor.proofs.named.last_of_chunks.Given as goal

abbrev pub invariant-loop-place : goal.invariant-loop-place
invariant-loop-place l = l.last ≡ fold max l.before (map segment_number (take l.place-index l.chunks))
