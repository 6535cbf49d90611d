use Rattle.script_running.proofs.Texts.{only_given_up}
use Rattle.script_running.proofs.means.given_up.Goals as goal

pub unreachable-requires : goal.unreachable-requires
unreachable-requires c = only_given_up c.requires.0 c.args.refusal c.requires.1 c.in_default.not-NoMemory c.in_default.not-PatternSize
