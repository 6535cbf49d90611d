use Rattle.replay_cli.proofs.OneSummary.{day_tells}
use Rattle.replay_cli.proofs.laws.journals_tell_the_summary.Goals as goal

pub returns : goal.returns
returns c = day_tells
