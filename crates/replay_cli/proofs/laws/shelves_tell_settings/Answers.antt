use Rattle.call_verdicts.proofs.OneShelf.{settings_are_one}
use Rattle.replay_cli.proofs.laws.shelves_tell_settings.Goals as goal

pub returns : goal.returns
returns c = settings_are_one
