use Rattle.std.proofs.Common.{◌≡◌, take, sum_by}
use Rattle.block_content.specs.Named.{counted, lent_bytes}
use Rattle.block_content.proofs.naming.text_bytes.Given as goal

abbrev pub invariant-loop-label : goal.invariant-loop-label
invariant-loop-label l = l.bytes ≡ counted (sum_by lent_bytes (take l.label-index l.labels))
