use Rattle.std.proofs.Common.{◌≡◌, length, get_or, pos, None, to_z, of_z, arith, rules}
use Rattle.std.specs.Prelude.{FitsSigned}
use Rattle.std.specs.Int.{w64}
use Rattle.std.proofs.lemmas.Int.{to_z-of_z}
use Rattle.group_planner.proofs.SelectionLaws.{FoundAmong, among_at, ranged_hit, ranged_more, ranged_all}
use Rattle.group_planner.proofs.selection.first_of_ranges.Goals as goal

pub returns-in-Some : goal.returns-in-Some
returns-in-Some c =
    let fit : FitsSigned w64 (get_or c.args.ranges.now c.loop-range.range-index (pos 0)) = search rules in
    let found : FoundAmong c.args.ranges.now c.args.high c.args.metas.now _ =
    among_at c.args.ranges.now c.args.high (to_z w64 (of_z w64 c.args.high)) c.args.metas.now _ (to_z-of_z w64 c.args.high c.ranges.high)
    (ranged_hit c.args.ranges.now c.loop-range.range-index _ (to_z w64 (of_z w64 c.args.high)) c.args.metas.now c.in-Some.part.now c.loop-range-test.true
    (to_z-of_z w64 (get_or c.args.ranges.now c.loop-range.range-index (pos 0)) fit)
    (record { parts = c.in-Some.ensures.0; are = c.in-Some.ensures.1; first = c.in-Some.ensures.2 }) c.loop-range.invariant) in
    (found.candidates, found.are, (_, found.first))

pub loop-range-preserved : goal.loop-range-preserved
loop-range-preserved c =
    let fit : FitsSigned w64 (get_or c.args.ranges.now c.loop-range.range-index (pos 0)) = search rules in
    ranged_more c.args.ranges.now c.loop-range.range-index _ (to_z w64 (of_z w64 c.args.high)) c.args.metas.now c.loop-range-test.true
    (to_z-of_z w64 (get_or c.args.ranges.now c.loop-range.range-index (pos 0)) fit)
    (record { parts = c.in_default.ensures.0; are = c.in_default.ensures.1; first = c.in_default.ensures.2 }) c.loop-range.invariant

pub returns : goal.returns
returns c =
    let all : c.loop-range.range-index ≡ length c.args.ranges.now = omega arith in
    let found : FoundAmong c.args.ranges.now c.args.high c.args.metas.now None =
    among_at c.args.ranges.now c.args.high (to_z w64 (of_z w64 c.args.high)) c.args.metas.now None (to_z-of_z w64 c.args.high c.ranges.high)
    (ranged_all c.args.ranges.now (to_z w64 (of_z w64 c.args.high)) c.args.metas.now c.loop-range.range-index all c.loop-range.invariant) in
    (found.candidates, found.are, found.first)
