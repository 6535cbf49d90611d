use Rattle.tests_worked.proofs.one.OtherReads.{spoiled_run, damaged_so}
use Rattle.tests_worked.proofs.other_reads.spoiled_index_is_damaged.Goals as goal

pub returns : goal.returns
returns c = record { run = spoiled_run; damaged = damaged_so }
