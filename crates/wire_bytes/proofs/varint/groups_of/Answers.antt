use Rattle.std.proofs.Common.{◌∙◌, sym, refl, get_or}
use Rattle.wire_bytes.proofs.Groups.{low_short, low_last, low_more}
use Rattle.wire_bytes.proofs.varint.groups_of.Goals as goal

pub returns-then-place-bytes-clause-exact : goal.returns-then-place-bytes-clause-exact
returns-then-place-bytes-clause-exact c = sym c.loop-place.invariant.whole ∙ low_short _ _ _ c.if-place-bytes.true

pub returns-then-group-lt-BASE-clause-exact : goal.returns-then-group-lt-BASE-clause-exact
returns-then-group-lt-BASE-clause-exact c =
    let group = get_or c.args.bytes.now c.loop-place.place 0 in
    let last = low_last _ _ _ _ c.loop-place-test.true c.if-place-bytes.false refl c.if-group-lt-BASE.true in
    rw c.with_group.ensures.value (sym c.loop-place.invariant.whole ∙ last)

pub loop-place-preserved : goal.loop-place-preserved
loop-place-preserved c =
    let group = get_or c.args.bytes.now c.loop-place.place 0 in
    let more = low_more _ _ _ _ c.loop-place-test.true c.if-place-bytes.false refl c.if-group-lt-BASE.false in
    record { low = c.with_group-n.ensures.below; whole = rw c.with_group-n.ensures.value (sym more ∙ c.loop-place.invariant.whole) }
