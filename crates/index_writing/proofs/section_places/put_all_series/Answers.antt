use Rattle.std.proofs.Common.{ℕ, List}
use Rattle.index_writing.proofs.AlignedTexts.{so_far_step, so_far_stop, so_far_end, so_far_places}
use Rattle.index_writing.proofs.Standing.{stands_next, stands_end}
use Rattle.index_writing.proofs.section_places.put_all_series.Goals as goal

pub returns-in_err-put_series-clause-makes : goal.returns-in_err-put_series-clause-makes
returns-in_err-put_series-clause-makes c =
    so_far_stop c.loop-one.invariant.0 _ _ _ _ _ _ c.loop-one-test.true c.one-item.is c.in_err-put_series.ensures.makes c.from_residual.ensures.1

pub loop-one-preserved : goal.loop-one-preserved
loop-one-preserved c = (
  so_far_step c.loop-one.invariant.0 c.put_series.new.out.items _ c.one-item.result c.one-item.result _ c.loop-one-test.true c.one-item.is c.in_ok-put_series.ensures.makes c.in_ok-put_series.ensures.number c.in_ok-push.ensures.ok,
  stands_next _ _ _ _ _ _ _ _ c.loop-one.invariant.1 c.loop-one-test.true c.one-item.is c.in_ok-put_series.ensures.makes.0 c.in_ok-put_series.ensures.number c.in_ok-push.ensures.ok c.in_ok-put_series.ensures.stands,
)

pub returns-clause-makes : goal.returns-clause-makes
returns-clause-makes c = so_far_end c.loop-one.invariant.0 (List ℕ) c.loop-one.numbers c.loop-one-test.false

pub returns-clause-numbers : goal.returns-clause-numbers
returns-clause-numbers c = so_far_places c.loop-one.invariant.0 c.loop-one-test.false

pub returns-clause-stand : goal.returns-clause-stand
returns-clause-stand c = stands_end _ _ _ _ c.loop-one.invariant.1 c.loop-one-test.false
