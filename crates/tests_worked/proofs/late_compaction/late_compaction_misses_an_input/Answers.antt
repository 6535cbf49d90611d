use Rattle.tests_worked.proofs.late.LateCompaction.{finished, honest, run}
use Rattle.tests_worked.proofs.late.LateRules.{lawful}
use Rattle.tests_worked.proofs.late_compaction.late_compaction_misses_an_input.Goals as goal

pub returns : goal.returns
returns c = record { lawful = lawful; run = run; finished = finished; honest = honest }
