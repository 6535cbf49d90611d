use Rattle.tests_worked.proofs.pair.StoppedCompaction as row
use Rattle.tests_worked.proofs.stopped_compaction.stopped_output_is_a_partial.Goals as goal

pub returns : goal.returns
returns c = record { incomplete = row.incomplete; decides = row.decides }
