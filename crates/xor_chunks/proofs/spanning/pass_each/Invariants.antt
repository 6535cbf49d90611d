use Rattle.xor_chunks.specs.Known.{state_of}
use Rattle.xor_chunks.proofs.SpansRead.{HasPassed}
use Rattle.xor_chunks.proofs.spanning.pass_each.Given as goal

abbrev pub invariant-loop : goal.invariant-loop
invariant-loop l = HasPassed l.counter (state_of l.fn.second) l.fn.reader (state_of l.last) l.reader
