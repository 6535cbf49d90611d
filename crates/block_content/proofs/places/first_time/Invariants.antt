use Rattle.block_content.proofs.Findings.{NoneOutside}
use Rattle.block_content.proofs.places.first_time.Given as goal

abbrev pub invariant-loop-sample : goal.invariant-loop-sample
invariant-loop-sample l = NoneOutside l.meta l.samples l.sample-index
