use Rattle.tests_worked.proofs.SpoiledMeta.{finished, run}
use Rattle.tests_worked.proofs.spoiled_meta.spoiled_meta_gives_no_view.Goals as goal

pub returns : goal.returns
returns c = record { run = run; finished = finished }
