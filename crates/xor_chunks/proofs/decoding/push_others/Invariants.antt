use Rattle.xor_chunks.specs.Known.{state_of}
use Rattle.xor_chunks.proofs.Loops.{HasRead}
use Rattle.xor_chunks.proofs.decoding.push_others.Given as goal

abbrev pub invariant-loop : goal.invariant-loop
invariant-loop l = HasRead l.fn.samples.items l.samples.items l.counter (state_of l.fn.second) l.fn.reader (state_of l.last) l.reader
