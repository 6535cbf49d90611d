use Rattle.tests_worked.proofs.pair.CompactedPair as row
use Rattle.tests_worked.proofs.compacted_pair.pair_is_compacted.Goals as goal

pub returns : goal.returns
returns c = record { run = row.run; finished = row.finished; honest = row.honest }
