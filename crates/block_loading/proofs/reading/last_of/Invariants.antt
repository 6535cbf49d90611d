use Rattle.std.proofs.Common.{◌≡◌, max, map, take}
use Rattle.block_loading.specs.Loading.{file_number, greatest}
use Rattle.block_loading.proofs.reading.last_of.Given as goal

abbrev pub invariant-loop-place : goal.invariant-loop-place
invariant-loop-place l = l.last ≡ max l.before (greatest (map file_number (take l.place-index l.chunks)))
