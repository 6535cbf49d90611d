-- What the reader keeps of the samples that it has read, as the state of which the grammar speaks.
use Rattle.xor_chunks.specs.declared.last.Last.{Last}
use Rattle.xor_chunks.specs.State.{State}

abbrev pub state_of : Last → State
state_of last = record { time = last.time; delta = last.delta; pattern = last.pattern; window = last.window }
