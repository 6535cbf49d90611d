use Rattle.std.proofs.Common.{◌≡◌, Err, ap, subst}
use Rattle.std.specs.Prelude.{IfOk}
use Rattle.block_meta.specs.declared.build_refusal.BuildRefusal.{BuildRefusal}
use Rattle.block_meta.specs.declared.build_refusal.BuildRefusal.TheVariants as refusal
use Rattle.std.specs.Int.{w64}
use Rattle.std.proofs.lemmas.Int.{to_z-of_z}
use Rattle.block_keys.specs.Blocks.{IsBlock}
use Rattle.script_running.proofs.Planned.{planned_same, refused_from, shipped_from, ulid_by}
use Rattle.script_running.proofs.plan.inline_objects.Goals as goal

pub returns-in-Ok-clause-block : goal.returns-in-Ok-clause-block
returns-in-Ok-clause-block c =
    subst (λ n. IfOk c.built_objects.result (IsBlock n)) (ulid_by c.args.block.now _ _ _ c.in_ok-plan.plan c.in-Ok.files c.in_ok-plan.ensures c.in-Ok.ensures.built) c.built_objects.ensures.block

pub returns-in-Ok-clause-shipped : goal.returns-in-Ok-clause-shipped
returns-in-Ok-clause-shipped c = λ setting.
    let early = to_z-of_z w64 c.args.min_time c.ranges.min_time in
    let late = to_z-of_z w64 c.args.max_time c.ranges.max_time in
    let is = planned_same c.args.block.now _ c.args.min_time _ c.args.max_time c.in_ok-plan.plan early late c.in_ok-plan.ensures in
    shipped_from setting c.args.block.now c.args.min_time c.args.max_time c.args.series.now c.in_ok-plan.plan c.in-Ok.files c.built_objects.result c.requires.body is c.in-Ok.ensures.built (record { index = c.in-Ok.ensures.bytes.0; segments = c.in-Ok.ensures.bytes.1 })
    c.built_objects.ensures.objects

pub returns-clause-refused : goal.returns-clause-refused
returns-clause-refused c = λ setting large.
    let why : c.in-Err.refusal ≡ refusal.TooLarge = cc (large) in
    let early = to_z-of_z w64 c.args.min_time c.ranges.min_time in
    let late = to_z-of_z w64 c.args.max_time c.ranges.max_time in
    let is = planned_same c.args.block.now _ c.args.min_time _ c.args.max_time c.in_ok-plan.plan early late c.in_ok-plan.ensures in
    refused_from setting c.args.block.now c.args.min_time c.args.max_time c.args.series.now c.in_ok-plan.plan c.requires.body is (c.in-Err.ensures.too_large (ap (λ (r : BuildRefusal). Err r) why))
