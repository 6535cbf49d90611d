use Rattle.std.proofs.Common.{[]}
use Rattle.generated_day.specs.Day.{day_text}
use Rattle.generated_day.proofs.DayScripts.{day_spells}
use Rattle.generated_day.proofs.Wanting.{script_wants, whole_wants}
use Rattle.generated_day.proofs.day.generated_script.Goals as goal

pub returns-in-Ok-clause-spelled : goal.returns-in-Ok-clause-spelled
returns-in-Ok-clause-spelled c =
    c.finish.ensures.spelled (day_text c.args.number) (c.in-Ok.ensures [] c.new-reader.ensures)

pub returns-in-Ok-clause-lawful : goal.returns-in-Ok-clause-lawful
returns-in-Ok-clause-lawful c =
    c.finish.ensures.lawful (day_text c.args.number) (c.in-Ok.ensures [] c.new-reader.ensures)

pub returns-in-Ok-clause-refused : goal.returns-in-Ok-clause-refused
returns-in-Ok-clause-refused c =
    script_wants (day_text c.args.number) c.finish.result (day_spells c.args.number) (c.finish.ensures.gives (day_text c.args.number) (c.in-Ok.ensures [] c.new-reader.ensures))

pub returns-in-Err-clause-refused : goal.returns-in-Err-clause-refused
returns-in-Err-clause-refused c =
    whole_wants c.new-reader.result (day_text c.args.number) c.in-Err.refusal c.new-reader.ensures (day_spells c.args.number) c.in-Err.ensures
