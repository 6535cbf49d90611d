use Rattle.std.proofs.Common.{List, sym, subst, rules}
use Rattle.store_ranges.specs.IndexRanges.{Follows}
use Rattle.store_ranges.specs.declared.span.Span.{Span}
use Rattle.store_ranges.proofs.Cutting.{IsCutUpto, cut_none, turn_here, turn_on, cut_all}
use Rattle.store_ranges.proofs.runs.runs_of_series.Goals as goal
use Rattle.store_ranges.proofs.runs.runs_of_series.Goals.{then-not-goes_on+in_ok-push, else-not-goes_on}

pub loop-place-init : goal.loop-place-init
loop-place-init c =
    subst (λ (ss : List Span). IsCutUpto (Follows c.args.all.now) c.args.numbers.now ss 0 0) (sym c.new-runs.ensures.items)
    (cut_none (Follows c.args.all.now) c.args.numbers.now)

pub loop-place-preserved : goal.loop-place-preserved
loop-place-preserved c =
    elim c.if-not-goes_on.branch [
      | then-not-goes_on+in_ok-push w ↦
          turn_here (Follows c.args.all.now) c.args.numbers.now c.loop-place.runs.items c.if-not-goes_on.runs.items c.loop-place.start c.loop-place.place c.if-not-goes_on.start c.loop-place-test.true
          (λ g. let t = c.goes_on.ensures.1 g in cc (t, w.if-not-goes_on.true))
          c.loop-place.invariant
          (first_of (cc, search rules)) w.start-is
      | else-not-goes_on w ↦
          turn_on (Follows c.args.all.now) c.args.numbers.now c.loop-place.runs.items c.if-not-goes_on.runs.items c.loop-place.start c.loop-place.place c.if-not-goes_on.start
          (c.goes_on.ensures.0 w.if-not-goes_on.false)
          c.loop-place.invariant
          (first_of (cc, search rules)) w.start-is
    ]

pub returns-clause-cut : goal.returns-clause-cut
returns-clause-cut c = cut_all (Follows c.args.all.now) c.args.numbers.now c.loop-place.runs.items c.loop-place.start c.loop-place.place c.loop-place-test.false c.loop-place.invariant

pub returns-clause-within : goal.returns-clause-within
returns-clause-within c = c.loop-place.invariant.within
