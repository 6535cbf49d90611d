use Rattle.tests_worked.proofs.pair.StoppedCompaction as row
use Rattle.tests_worked.proofs.stopped_compaction.stopped_compaction_is_cleaned.Goals as goal

pub returns : goal.returns
returns c = record { run = row.run; finished = row.finished; honest = row.honest }
