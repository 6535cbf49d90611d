use Rattle.std.proofs.Common.{refl}
use Rattle.replay_cli.specs.call_verdicts.specs.Words.{number_word, serial_names}
use Rattle.tests_runs.proofs.ToldCalls.{asked_of}
use Rattle.tests_runs.proofs.told_runs.run_told.Goals as goal

pub returns : goal.returns
returns g c = λ done. asked_of (number_word c.args.words.now) (serial_names c.args.words.now) _ _ c.run_tool.result refl c.run_tool.ensures done
