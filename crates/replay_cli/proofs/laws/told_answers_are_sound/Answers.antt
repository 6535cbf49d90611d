use Rattle.replay_cli.proofs.ToldAnswers.{full_answers, whole_answers}
use Rattle.replay_cli.proofs.laws.told_answers_are_sound.Goals as goal

pub returns : goal.returns
returns c = record { whole = whole_answers; full = full_answers }
