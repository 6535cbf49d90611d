use Rattle.std.proofs.lemmas.Result.{IfOk-weaker}
use Rattle.vertical_merge.proofs.TimesMerged.{as_it_is}
use Rattle.vertical_merge.proofs.FirstsJoined.{ascends_first, parts_joined}
use Rattle.vertical_merge.proofs.sample_merge.+merged_samples.Goals as goal

pub returns-in_default : goal.returns-in_default
returns-in_default t c = as_it_is _ _ c.in_ok-from_slice.ensures.items c.in_default.ensures

pub merge-requires-clause-ascend : goal.merge-requires-clause-ascend
merge-requires-clause-ascend t c = ascends_first _ _ _ c.in_ok-front.ensures (λ i. c.in_ok-front.front.items)

pub merge-requires-clause-others : goal.merge-requires-clause-others
merge-requires-clause-others t c = ascends_first _ _ _ c.in_ok-back.ensures c.as_slice.ensures.value

pub returns : goal.returns
returns t c = IfOk-weaker c.merge.result _ _ (λ made is. parts_joined made.items c.in_ok-front.front.items c.in_ok-back.back.items c.as_slice.result.now c.args.samples.now _ _ c.in-Some.place
    c.split_at.ensures.front c.split_at.ensures.back c.in_ok-front.ensures c.in_ok-back.ensures c.as_slice.ensures.value is) c.merge.ensures
