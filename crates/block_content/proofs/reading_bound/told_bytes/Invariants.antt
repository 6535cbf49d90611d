use Rattle.std.proofs.Common.{◌≡◌, take, sum_by}
use Rattle.block_content.specs.Named.{counted}
use Rattle.block_content.specs.ReadBytes.{told_there}
use Rattle.block_content.proofs.reading_bound.told_bytes.Given as goal

abbrev pub invariant-loop-number : goal.invariant-loop-number
invariant-loop-number l = l.bytes ≡ counted (sum_by (told_there l.segments) (take l.number-index l.numbers))
