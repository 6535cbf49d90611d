use Rattle.std.proofs.Common.{arith, refl}
use Rattle.wire_bytes.proofs.Groups.{joined_below, shifted_group, weight_fits}
use Rattle.wire_bytes.proofs.varint.with_group.Goals as goal

pub overflow_add-result : goal.overflow_add-result
overflow_add-result c =
    let a = c.args in
    rw (shifted_group a.group a.place c.requires.group c.requires.limit) (omega (arith, joined_below a.n a.group a.place c.requires.low c.requires.group, weight_fits a.place c.requires.limit))

pub returns-clause-value : goal.returns-clause-value
returns-clause-value c = rw (shifted_group c.args.group c.args.place c.requires.group c.requires.limit) refl

pub returns-clause-below : goal.returns-clause-below
returns-clause-below c =
    let a = c.args in
    rw (shifted_group a.group a.place c.requires.group c.requires.limit) (joined_below _ _ _ c.requires.low c.requires.group)
