use Rattle.tests_worked.proofs.one.OtherReads.{failed_run, failed_honest, failed_unwell}
use Rattle.tests_worked.proofs.other_reads.failed_read_ends_no_query.Goals as goal

pub returns : goal.returns
returns c = record { run = failed_run; honest = failed_honest; unwell = failed_unwell }
