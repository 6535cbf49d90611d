use Rattle.std.proofs.Common.{Some, None, sym, to_z, of_z}
use Rattle.std.specs.Int.{w64}
use Rattle.std.proofs.lemmas.Int.{to_z-of_z}
use Rattle.group_planner.proofs.SelectionLaws.{Found, found_at, searched_hit, searched_more, searched_all}
use Rattle.group_planner.proofs.selection.first_of_range.Goals as goal

pub returns-then-is_worthwhile : goal.returns-then-is_worthwhile
returns-then-is_worthwhile c =
    let found : Found c.args.range c.args.high c.args.metas.now (Some c.in-Some.part.now) =
    found_at c.args.range c.args.high (to_z w64 (of_z w64 c.args.range)) (to_z w64 (of_z w64 c.args.high)) c.args.metas.now (Some c.in-Some.part.now)
    (to_z-of_z w64 c.args.range c.ranges.range) (to_z-of_z w64 c.args.high c.ranges.high)
    (searched_hit (to_z w64 (of_z w64 c.args.range)) (to_z w64 (of_z w64 c.args.high)) c.args.metas.now c.loop-part.left.now c.in-Some.part.now c.in-Some.behind.now
    c.in-Some.ensures (sym c.if-is_worthwhile.ensures) c.loop-part.invariant) in
    (found.parts, found.are, found.first)

pub loop-part-preserved : goal.loop-part-preserved
loop-part-preserved c =
    searched_more (to_z w64 (of_z w64 c.args.range)) (to_z w64 (of_z w64 c.args.high)) c.args.metas.now c.loop-part.left.now c.in-Some.part.now c.in-Some.behind.now
    c.in-Some.ensures (sym c.if-is_worthwhile.ensures) c.loop-part.invariant

pub returns : goal.returns
returns c =
    let found : Found c.args.range c.args.high c.args.metas.now None =
    found_at c.args.range c.args.high (to_z w64 (of_z w64 c.args.range)) (to_z w64 (of_z w64 c.args.high)) c.args.metas.now None
    (to_z-of_z w64 c.args.range c.ranges.range) (to_z-of_z w64 c.args.high c.ranges.high)
    (searched_all (to_z w64 (of_z w64 c.args.range)) (to_z w64 (of_z w64 c.args.high)) c.args.metas.now c.loop-part.left.now c.in_default.ensures c.loop-part.invariant) in
    (found.parts, found.are, found.first)
