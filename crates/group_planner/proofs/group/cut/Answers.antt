use Rattle.std.proofs.Common.{arith}
use Rattle.std.proofs.lemmas.Iterator.Adapters.{YieldsList-from_vec}
use Rattle.std.proofs.lemmas.Iterator.Consumers.{YieldsList-turn, YieldsList-so_far}
use Rattle.group_planner.proofs.CutLaws.{cut_none, goes_on}
use Rattle.group_planner.proofs.group.cut.Goals as goal

pub loop-next-init : goal.loop-next-init
loop-next-init c = cut_none c.new-groups.result.items c.new-groups.ensures.items

pub loop-next-preserved : goal.loop-next-preserved
loop-next-preserved c =
    let road = YieldsList-from_vec c.args.keyed.items c.into_iter-next-iterator.ensures.into_iter_gives.0 (omega (arith, c.into_iter-next-iterator.ensures.into_iter_gives.1, c.args.keyed.ok)) in
    let so_far = YieldsList-so_far road c.loop-next.yielded c.loop-next.next-iterator c.loop-next.yielded_by in
    let turn = YieldsList-turn road c.loop-next.yielded c.loop-next.next-iterator c.loop-next.yielded_by c.next.result c.next.new.self c.in-Some.next c.in-Some.is c.next.ensures.steps in
    c.in_ok-add.ensures c.loop-next.yielded c.loop-next.invariant (goes_on c.args.keyed.items c.loop-next.yielded c.in-Some.next c.requires so_far turn)
