use Rattle.std.proofs.Common.{◌≡◌, true, take}
use Rattle.std.specs.Prelude.{not}
use Rattle.std.specs.List.{list_all}
use Rattle.store_ranges.specs.ChunkRanges.{meets}
use Rattle.store_chunks.proofs.row_shown.takes_none.Given as goal

abbrev pub invariant-loop-place : goal.invariant-loop-place
invariant-loop-place l = list_all (λ place. not (meets l.asked.low l.asked.high place)) (take l.place-index l.chunks) ≡ true
