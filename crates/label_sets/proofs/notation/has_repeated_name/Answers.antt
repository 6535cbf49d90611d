use Rattle.label_sets.proofs.RepeatedNames.{repeats_before, no_repeats_before}
use Rattle.label_sets.proofs.notation.has_repeated_name.Goals as goal

pub returns-then-eq : goal.returns-then-eq
returns-then-eq c = repeats_before _ _ _ _ c.loop-i.auto.i c.loop-i-test.true c.if-eq.ensures

pub returns : goal.returns
returns c = no_repeats_before _ _ c.loop-i-test.false c.requires c.loop-i.invariant
