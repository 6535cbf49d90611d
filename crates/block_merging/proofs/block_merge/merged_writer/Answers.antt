use Rattle.std.proofs.Common.{◌≡◌, sym, ap, subst, ◌∙◌}
use Rattle.std.specs.List.{AllByRecursion}
use Rattle.base.specs.Lists.{joined}
use Rattle.block_meta.specs.Lawful.{AreLawfulTimes}
use Rattle.block_meta.specs.declared.block_plan.BlockPlan.{BlockPlan}
use Rattle.block_writing.specs.Put.{PlanFields, Put, IsStored, nothing_put}
use Rattle.block_writing.specs.Writing.{plan_fields}
use Rattle.block_merging.specs.MergeSteps.{HasAll}
use Rattle.block_merging.specs.Queues.{chunks_of, lefts_in}
use Rattle.block_merging.proofs.block_merge.merged_writer.Goals as goal

pub put_groups-requires-clause-stored : goal.put_groups-requires-clause-stored
put_groups-requires-clause-stored c =
    let is : c.with_room-writer.result ≡ nothing_put (plan_fields c.args.plan.now) = c.with_room-writer.ensures ∙ ap (λ (p : BlockPlan). nothing_put (plan_fields p)) c.in_ok-copy.ensures in
    subst (λ (p : PlanFields). AllByRecursion (IsStored p) (chunks_of (joined (lefts_in c.args.plan.now.labels c.args.replicas.now c.args.queues.now.items)))) (sym (ap (λ (w : Put). w.plan) is)) c.requires.stored

pub put_groups-requires-clause-times : goal.put_groups-requires-clause-times
put_groups-requires-clause-times c =
    let is : c.with_room-writer.result ≡ nothing_put (plan_fields c.args.plan.now) = c.with_room-writer.ensures ∙ ap (λ (p : BlockPlan). nothing_put (plan_fields p)) c.in_ok-copy.ensures in
    subst (λ (p : PlanFields). AreLawfulTimes p.min_time p.max_time) (sym (ap (λ (w : Put). w.plan) is)) c.args.plan.now.times

pub put_groups-requires-clause-nothing : goal.put_groups-requires-clause-nothing
put_groups-requires-clause-nothing c =
    let is : c.with_room-writer.result ≡ nothing_put (plan_fields c.args.plan.now) = c.with_room-writer.ensures ∙ ap (λ (p : BlockPlan). nothing_put (plan_fields p)) c.in_ok-copy.ensures in
    is ∙ ap nothing_put (sym (ap (λ (w : Put). w.plan) is))

pub returns : goal.returns
returns c =
    let is : c.with_room-writer.result ≡ nothing_put (plan_fields c.args.plan.now) = c.with_room-writer.ensures ∙ ap (λ (p : BlockPlan). nothing_put (plan_fields p)) c.in_ok-copy.ensures in
    subst (λ (p : PlanFields). HasAll p (joined (lefts_in c.args.plan.now.labels c.args.replicas.now c.args.queues.now.items)) c.put_groups.new.writer) (ap (λ (w : Put). w.plan) is) c.in_ok-put_groups.ensures
