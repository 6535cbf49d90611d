use Rattle.std.proofs.Common.{sym, arith}
use Rattle.index_parts.specs.Parts.{part_of}
use Rattle.index_v2.proofs.ListsFew.{sizes_start, sizes_step, sizes_over, sizes_end}
use Rattle.index_v2.proofs.sizes.have_at_most.Goals as goal

pub loop-place-init : goal.loop-place-init
loop-place-init c = sizes_start (part_of c.args.part) c.args.rows.now c.args.most

pub returns-then-size-left : goal.returns-then-size-left
returns-then-size-left c = sizes_over _ _ _ c.loop-place.place c.loop-place.left _ _ c.loop-place.invariant (sym c.in-Some.ensures) c.list_size.ensures (omega arith)

pub loop-place-preserved : goal.loop-place-preserved
loop-place-preserved c = sizes_step _ _ _ c.loop-place.place c.loop-place.left _ _ c.loop-place.invariant (sym c.in-Some.ensures) c.list_size.ensures _ (omega arith) (omega arith)

pub returns : goal.returns
returns c = sizes_end _ _ _ c.loop-place.place c.loop-place.left c.loop-place.invariant (omega arith)
