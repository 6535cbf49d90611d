use Rattle.block_content.specs.ContentReading.{repeated_in}
use Rattle.block_content.proofs.Findings.{NoneYet}
use Rattle.block_content.proofs.chunk_order.first_repeated.Given as goal

abbrev pub invariant-loop-one : goal.invariant-loop-one
invariant-loop-one l = NoneYet repeated_in l.indexed l.one-index l.series
