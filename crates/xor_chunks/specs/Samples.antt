-- Samples, and what the next one is told from.
use Rattle.label_sets.specs.declared.sample.Sample.{Sample}
use Rattle.xor_chunks.specs.State.{State}
use Rattle.xor_chunks.specs.Window.{whole}

-- after the first sample
abbrev pub of_first : Sample → State
of_first first = record { time = first.time; delta = 0; pattern = first.pattern; window = whole }

abbrev pub sample_of : State → Sample
sample_of last = record { time = last.time; pattern = last.pattern }
