use Rattle.lifecycle_core.proofs.phases.OneCut.{cut_is_unfinished, cuts_tell}
use Rattle.lifecycle_core.proofs.phases.OneEnding.{begun_tell, ends_tell}
use Rattle.lifecycle_core.proofs.laws.ends_are_one.Goals as goal

pub returns : goal.returns
returns c = record {
  finished = ends_tell;
  begun = begun_tell;
  cut = cuts_tell;
  unfinished = cut_is_unfinished;
}
