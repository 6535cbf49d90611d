use Rattle.std.proofs.Common.{refl, arith, subst, sym}
use Rattle.index_v2.specs.Ranks.{AreRanked}
use Rattle.index_v2.proofs.LabelRanks.{no_series_ranked, one_more_ranked}
use Rattle.index_v2.proofs.ListsFew.{labels_few}
use Rattle.index_v2.proofs.WholeLoops.{series_begin, series_step, series_stop, series_end, gives_stop}
use Rattle.index_v2.proofs.whole.all_series.Goals as goal

pub loop-number-init : goal.loop-number-init
loop-number-init c = (
  series_begin _ _ _ _ c.new-series.ensures.items,
  no_series_ranked _ _ _ c.new-series.ensures.items c.new-ranks.ensures.items,
)

pub series_behind-requires-clause-also : goal.series_behind-requires-clause-also
series_behind-requires-clause-also c = c.loop-number.invariant.0.small

pub returns-in_err-one-clause-exact : goal.returns-in_err-one-clause-exact
returns-in_err-one-clause-exact c =
    let before = subst (AreRanked c.args.symbols.now c.loop-number.series.items) (sym c.as_slice.ensures.value) c.loop-number.invariant.1 in
    gives_stop _ _ _ _ _ _ c.from_residual.ensures.1 (c.in_err-one.ensures.exact c.loop-number.series.items before)
    (λ refused. series_stop _ _ _ c.loop-number.number-index _ _ _ _ _ c.loop-number.invariant.0 c.loop-number-test.true refl refl refused)

pub loop-number-preserved : goal.loop-number-preserved
loop-number-preserved c =
    let before = subst (AreRanked c.args.symbols.now c.loop-number.series.items) (sym c.as_slice.ensures.value) c.loop-number.invariant.1 in (
      series_step _ _ _ _ _ _ _ _ c.loop-number.series.items _ _ c.loop-number.invariant.0 c.loop-number-test.true refl refl (c.requires c.loop-number.number-index 0 c.loop-number-test.true) refl (c.in_ok-one.ensures.exact c.loop-number.series.items before) c.in_ok-push.ensures.items,
      one_more_ranked _ _ _ _ _ _ _ c.loop-number.invariant.1 c.in_ok-one.ensures.ranked c.in_ok-push.ensures.items c.in_ok-push-2.ensures.items,
    )

pub returns-clause-exact : goal.returns-clause-exact
returns-clause-exact c = series_end _ _ _ _ _ _ c.loop-number.invariant.0 (omega arith)

pub returns-clause-as_many : goal.returns-clause-as_many
returns-clause-as_many c = let m = c.loop-number.invariant.0.many in omega arith

pub returns-clause-ranked : goal.returns-clause-ranked
returns-clause-ranked c = c.loop-number.invariant.1

pub returns-clause-few : goal.returns-clause-few
returns-clause-few c = labels_few _ _ _ _ (λ i. (c.type_inv.index i).fits) (series_end _ _ _ _ _ _ c.loop-number.invariant.0 (omega arith))
