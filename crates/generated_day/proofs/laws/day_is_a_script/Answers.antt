use Rattle.generated_day.proofs.DayScripts.{day_spells}
use Rattle.generated_day.proofs.laws.day_is_a_script.Goals as goal

pub returns : goal.returns
returns c = day_spells c.args.number
