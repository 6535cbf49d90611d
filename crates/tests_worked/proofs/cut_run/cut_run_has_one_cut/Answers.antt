use Rattle.tests_worked.proofs.one.CutRun.{behind_first, only_first, unfinished}
use Rattle.tests_worked.proofs.cut_run.cut_run_has_one_cut.Goals as goal

pub returns : goal.returns
returns c = record { cut = behind_first; only = only_first; unfinished = unfinished }
