use Rattle.std.proofs.Common.{◌≡◌, length, to_z, of_z, arith}
use Rattle.std.specs.Int.{w64, w128}
use Rattle.std.proofs.lemmas.Int.{to_z-of_z}
use Rattle.group_planner.proofs.PartLaws.{part_stops, part_more, part_ends}
use Rattle.group_planner.proofs.parts.part_length.Goals as goal

pub returns-then-not-fits_at-clause-longest : goal.returns-then-not-fits_at-clause-longest
returns-then-not-fits_at-clause-longest c =
    part_stops c.args.range c.args.start _ _ c.args.metas.now c.loop-place.place c.index-metas-place.result
    (to_z-of_z w64 c.args.range c.ranges.range) (to_z-of_z w128 c.args.start c.ranges.start)
    c.loop-place-test.true c.index-metas-place.is c.if-not-fits_at.ensures c.loop-place.invariant

pub loop-place-preserved : goal.loop-place-preserved
loop-place-preserved c =
    part_more (to_z w64 (of_z w64 c.args.range)) (to_z w128 (of_z w128 c.args.start)) c.args.metas.now c.loop-place.place c.index-metas-place.result
    c.loop-place-test.true c.index-metas-place.is c.if-not-fits_at.ensures c.loop-place.invariant

pub returns-clause-longest : goal.returns-clause-longest
returns-clause-longest c =
    let all : c.loop-place.place ≡ length c.args.metas.now = omega arith in
    part_ends c.args.range c.args.start (to_z w64 (of_z w64 c.args.range)) (to_z w128 (of_z w128 c.args.start)) c.args.metas.now c.loop-place.place
    (to_z-of_z w64 c.args.range c.ranges.range) (to_z-of_z w128 c.args.start c.ranges.start) all c.loop-place.invariant
