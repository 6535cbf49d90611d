use Rattle.std.proofs.Common.{List, sym, subst, rules}
use Rattle.store_ranges.specs.ChunkRanges.{IsNear}
use Rattle.store_ranges.specs.declared.span.Span.{Span}
use Rattle.store_ranges.proofs.Cutting.{IsCutUpto, cut_none, turn_here, turn_on, cut_all}
use Rattle.store_ranges.proofs.groups.groups_of_references.Goals as goal
use Rattle.store_ranges.proofs.groups.groups_of_references.Goals.{then-not-goes_on+in_ok-push, else-not-goes_on}

pub loop-place-init : goal.loop-place-init
loop-place-init c =
    subst (λ (ss : List Span). IsCutUpto IsNear c.args.references.now ss 0 0) (sym c.new-groups.ensures.items)
    (cut_none IsNear c.args.references.now)

pub loop-place-preserved : goal.loop-place-preserved
loop-place-preserved c =
    elim c.if-not-goes_on.branch [
      | then-not-goes_on+in_ok-push w ↦
          turn_here IsNear c.args.references.now c.loop-place.groups.items c.if-not-goes_on.groups.items c.loop-place.start c.loop-place.place c.if-not-goes_on.start c.loop-place-test.true
          (λ g. let t = c.goes_on.ensures.1 g in cc (t, w.if-not-goes_on.true))
          c.loop-place.invariant
          (first_of (cc, search rules)) w.start-is
      | else-not-goes_on w ↦
          turn_on IsNear c.args.references.now c.loop-place.groups.items c.if-not-goes_on.groups.items c.loop-place.start c.loop-place.place c.if-not-goes_on.start
          (c.goes_on.ensures.0 w.if-not-goes_on.false)
          c.loop-place.invariant
          (first_of (cc, search rules)) w.start-is
    ]

pub returns-clause-cut : goal.returns-clause-cut
returns-clause-cut c = cut_all IsNear c.args.references.now c.loop-place.groups.items c.loop-place.start c.loop-place.place c.loop-place-test.false c.loop-place.invariant

pub returns-clause-within : goal.returns-clause-within
returns-clause-within c = c.loop-place.invariant.within
