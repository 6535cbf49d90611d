use Rattle.std.proofs.Common.{arith}
use Rattle.std.proofs.lemmas.Iterator.Adapters.{YieldsList-from_vec}
use Rattle.std.proofs.lemmas.Iterator.Consumers.{YieldsList-so_far}
use Rattle.vertical_merge.proofs.TakenSeries.{none_taken, one_taken, some_taken, where_stopped}
use Rattle.vertical_merge.proofs.merger.take_each.Goals as goal

pub loop-one-init : goal.loop-one-init
loop-one-init c = none_taken _

pub loop-one-preserved : goal.loop-one-preserved
loop-one-preserved c = one_taken _ _ _ _ _ c.loop-one.invariant c.in_ok-take.ensures.ok

pub returns-in_err-take-clause-err : goal.returns-in_err-take-clause-err
returns-in_err-take-clause-err c =
    let items = c.into_vec-one-items.result in
    let road = YieldsList-from_vec items.items c.into_iter-one-iterator.ensures.into_iter_gives.0 (omega (arith, c.into_iter-one-iterator.ensures.into_iter_gives.1, items.ok)) in
    let so_far = YieldsList-so_far road c.loop-one.yielded c.loop-one.one-iterator c.loop-one.yielded_by in
    where_stopped _ (some_taken _ _ _ _ _ _ c.into_vec-one-items.ensures so_far c.loop-one.invariant c.in_err-take.ensures.err)
