use Rattle.std.proofs.Common.{refl}
use Rattle.series_selection.proofs.Marks.{marked_found, marked_none}
use Rattle.series_selection.proofs.marking.mark_one.Goals as goal

pub returns-in-Ok-clause-marked : goal.returns-in-Ok-clause-marked
returns-in-Ok-clause-marked c = marked_found c.args.numbers.now c.args.number c.requires.rise c.in-Ok.place _ _ c.in-Ok.ensures.position refl

pub returns-in-Err-clause-marked : goal.returns-in-Err-clause-marked
returns-in-Err-clause-marked c = marked_none c.args.numbers.now c.args.number c.requires.rise c.in-Err.field-0 _ c.in-Err.ensures.position
