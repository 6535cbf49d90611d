use Rattle.label_sets.proofs.RepeatedNames.{repeats_found, repeats_others}
use Rattle.label_sets.proofs.notation.repeats_with.Goals as goal

pub returns-then-has_name : goal.returns-then-has_name
returns-then-has_name c = repeats_found _ _ _ c.has_name.ensures c.if-has_name.true

pub returns-else-has_name : goal.returns-else-has_name
returns-else-has_name c = repeats_others _ _ _ _ c.has_name.ensures c.if-has_name.false c.has_repeated_name.ensures
