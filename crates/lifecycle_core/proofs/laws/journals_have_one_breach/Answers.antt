use Rattle.lifecycle_core.proofs.journals.OneBreach.{is_unbroken, one_pair, one_place}
use Rattle.lifecycle_core.proofs.laws.journals_have_one_breach.Goals as goal

pub returns : goal.returns
returns c = record {
  unbroken = is_unbroken;
  place = one_place;
  numbers = one_pair;
}
