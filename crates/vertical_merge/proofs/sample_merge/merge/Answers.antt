use Rattle.std.proofs.Common.{◌∙◌, ap, drop, refl, arith}
use Rattle.std.proofs.lemmas.Result.{IfOk-weaker}
use Rattle.vertical_merge.proofs.TimesMerged.{tail_ascends, merged_from, all_behind}
use Rattle.vertical_merge.proofs.sample_merge.merge.Goals as goal

pub returns-then-start-len : goal.returns-then-start-len
returns-then-start-len c = IfOk-weaker c.with_appended.result _ _ (λ made is. all_behind made.items c.as_slice.result.now c.args.samples.items c.args.others.now c.start_of-start.result
    c.requires.ascend c.requires.others (omega arith) c.as_slice.ensures.value c.start_of-start.ensures.before is) c.with_appended.ensures

pub with_merged-requires-clause-ascend : goal.with_merged-requires-clause-ascend
with_merged-requires-clause-ascend c = tail_ascends _ _ _ _ c.requires.ascend
    (c.split_at.ensures.back ∙ ap (drop c.start_of-start.result) c.as_slice-2.ensures.value) refl

pub returns : goal.returns
returns c = IfOk-weaker c.with_merged.result _ _ (λ made is. merged_from made.items _ _ _ _ c.as_slice-2.result.now c.as_slice.result.now c.args.samples.items c.args.others.now c.start_of-start.result
    c.requires.ascend c.in_ok-extend_from_slice.ensures.items c.in_ok-made.ensures.items c.split_at.ensures.front c.split_at.ensures.back c.as_slice-2.ensures.value
    c.as_slice.ensures.value c.start_of-start.ensures.before is) c.with_merged.ensures
