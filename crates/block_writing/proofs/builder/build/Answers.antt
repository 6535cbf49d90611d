use Rattle.std.proofs.Common.{List, map, sym, ap, subst, ◌∙◌}
use Rattle.std.specs.Prelude.{IfOk}
use Rattle.std.specs.List.Sorted.{IsStrictlySortedBy}
use Rattle.label_sets.specs.Labels.{compare_sets}
use Rattle.label_sets.specs.declared.series.Series.{Series}
use Rattle.block_meta.specs.declared.block_plan.BlockPlan.{BlockPlan}
use Rattle.block_writing.specs.Put.{nothing_put}
use Rattle.block_writing.specs.Writing.{plan_fields}
use Rattle.block_writing.specs.Built.{AreBuildable, IsBuilt}
use Rattle.block_writing.proofs.Builds.{none_put, of_series, of_times, after_series, few_counted, one_more, all_put, built_from}
use Rattle.block_writing.proofs.OnePut.{block_refused}
use Rattle.block_writing.proofs.builder.build.Goals as goal

pub loop-one-init : goal.loop-one-init
loop-one-init c =
    none_put (plan_fields c.args.plan.now) c.new-writer.result (c.new-writer.ensures ∙ ap (λ (p : BlockPlan). nothing_put (plan_fields p)) c.in_ok-copy.ensures)

pub put_series-requires-clause-samples : goal.put_series-requires-clause-samples
put_series-requires-clause-samples c =
    of_series (plan_fields c.args.plan.now) c.members-one-items.result.now c.loop-one.one-index c.one-item.result c.one-item.result c.loop-one.writer
    (subst (AreBuildable (plan_fields c.args.plan.now)) (sym c.members-one-items.ensures) c.requires) c.loop-one-test.true c.one-item.is c.loop-one.invariant

pub put_series-requires-clause-times : goal.put_series-requires-clause-times
put_series-requires-clause-times c = of_times (plan_fields c.args.plan.now) _ c.loop-one.writer c.args.plan.now.times c.loop-one.invariant

pub put_series-requires-clause-greater : goal.put_series-requires-clause-greater
put_series-requires-clause-greater c =
    after_series (plan_fields c.args.plan.now) c.members-one-items.result.now c.loop-one.one-index c.one-item.result c.one-item.result c.loop-one.writer
    (subst (λ (l : List Series). IsStrictlySortedBy compare_sets (map (λ (s : Series). s.labels) l)) (sym c.members-one-items.ensures) c.requires.ascend) c.loop-one-test.true c.one-item.is c.loop-one.invariant

pub put_series-requires-clause-counted : goal.put_series-requires-clause-counted
put_series-requires-clause-counted c = few_counted (plan_fields c.args.plan.now) _ c.loop-one.writer c.loop-one.invariant

pub loop-one-preserved : goal.loop-one-preserved
loop-one-preserved c =
    one_more (plan_fields c.args.plan.now) c.members-one-items.result.now c.loop-one.one-index c.one-item.result c.one-item.result c.loop-one.writer c.put_series.new.writer c.loop-one-test.true c.one-item.is c.loop-one.invariant c.in_ok-put_series.ensures

pub returns : goal.returns
returns c =
    let put = all_put (plan_fields c.args.plan.now) c.members-one-items.result.now c.args.series.now c.loop-one.one-index c.loop-one.writer c.members-one-items.ensures c.loop-one-test.false c.loop-one.invariant in
    let built : IfOk c.finish.result (IsBuilt c.args.plan.now c.args.series.now) = built_from c.finish.result c.args.plan.now c.args.series.now c.loop-one.writer put c.finish.ensures.written in
    record {
      built = built;
      bytes = c.finish.ensures.bytes;
      too_large = λ large. record { put = c.loop-one.writer; put_is = put; large = c.finish.ensures.too_large large };
      refused = block_refused c.args.plan.now c.args.series.now c.finish.result built;
    }
