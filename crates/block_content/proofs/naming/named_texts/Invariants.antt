use Rattle.std.proofs.Common.{◌≡◌, take, sum_by}
use Rattle.block_content.specs.Named.{counted, text_bytes}
use Rattle.block_content.proofs.naming.named_texts.Given as goal

abbrev pub invariant-loop-one : goal.invariant-loop-one
invariant-loop-one l = l.bytes ≡ counted (sum_by text_bytes (take l.one-index l.indexed))
