use Rattle.std.proofs.Common.{to_z, of_z, rules}
use Rattle.std.specs.Prelude.{FitsSigned}
use Rattle.std.specs.Int.{w64, w128}
use Rattle.std.proofs.lemmas.Int.{to_z-of_z}
use Rattle.group_planner.proofs.PartLaws.{next_at, none_more}
use Rattle.group_planner.proofs.parts.next_part.Goals as goal

pub returns-then-fits : goal.returns-then-fits
returns-then-fits c =
    let fit : FitsSigned w128 c.start_of.result = search rules in
    next_at c.args.range (to_z w64 (of_z w64 c.args.range)) _ c.start_of.result c.args.metas.now _ _ _ c.loop-place.place c.part_length-count.result c.index-metas-place.result
    (to_z-of_z w64 c.args.range c.ranges.range) (to_z-of_z w128 c.start_of.result fit) c.start_of.ensures.value
    c.loop-place-test.true c.index-metas-place.is c.if-fits.ensures c.loop-place.invariant
    c.split_at.ensures.back c.split_at-then-fits.ensures.front c.split_at-then-fits.ensures.back c.part_length-count.ensures.longest

pub loop-place-preserved : goal.loop-place-preserved
loop-place-preserved c =
    none_more (to_z w64 (of_z w64 c.args.range)) c.args.metas.now c.loop-place.place c.index-metas-place.result
    c.loop-place-test.true c.index-metas-place.is c.if-fits.ensures c.loop-place.invariant
