use Rattle.store_calls.proofs.ShownEnds.{shows_failed, shows_missing}
use Rattle.store_calls.proofs.laws.calls_show_their_ends.Goals as goal

pub returns : goal.returns
returns c = record { missing = shows_missing; failed = shows_failed }
