use Rattle.lifecycle_core.proofs.answers.RunCalls.{misses_explained, rounds_explained}
use Rattle.lifecycle_core.proofs.laws.misses_are_explained.Goals as goal

pub returns : goal.returns
returns c = record { every = misses_explained; compactions = rounds_explained }
