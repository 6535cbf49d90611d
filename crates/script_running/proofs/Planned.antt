-- What is built of a declared block is what is shipped of it; and it is refused where it is not built.
use Rattle.std.proofs.Common.{◌≡◌, ◌≢◌, ℤ, ◌≤ℤ◌, ◌<ℤ◌, ◌<◌, List, [], ◌∷◌, length, sym, ◌∙◌, ap, subst, arith}
use Rattle.std.specs.Prelude.{Result, Ok, Err, IfOk}
use Rattle.std.proofs.lemmas.List.Elements.{All-weaker, recursion_from_All}
use Rattle.label_sets.specs.declared.sample.Sample.{Sample}
use Rattle.label_sets.specs.declared.series.Series.{Series}
use Rattle.label_sets.specs.Times.{IsWithin}
use Rattle.block_keys.specs.declared.object.Object.{Object}
use Rattle.block_meta.specs.MetaFields.{MetaFields, fields_of}
use Rattle.block_meta.specs.MetaValue.{meta_text}
use Rattle.block_meta.specs.declared.block_plan.BlockPlan.{BlockPlan}
use Rattle.block_meta.specs.Built.{objects_of}
use Rattle.block_meta.specs.declared.block_files.BlockFiles.{BlockFiles}
use Rattle.block_meta.specs.declared.build_refusal.BuildRefusal.{BuildRefusal}
use Rattle.block_merging.specs.PutContent.{AreBytes}
use Rattle.block_writing.specs.Built.{AreBuildable, AreOfBlock, HaveNoBlock, IsBuilt}
use Rattle.block_writing.specs.Put.{PlanFields}
use Rattle.block_writing.specs.Writing.{plan_fields}
use Rattle.block_writing.specs.WrittenMeta.{meta_with}
use Rattle.script_core.specs.Lawful.{HasLawfulSamples, IsLawfulBlock, IsLawfulBody, IsLawfulInline}
use Rattle.script_core.specs.declared.block.Block.{Block}
use Rattle.script_core.specs.declared.body.Body.{Body}
use Rattle.script_core.specs.declared.body.Body.TheVariants.{Inline}
use Rattle.script_core.proofs.SpelledValues.{within_spelled}
use Rattle.lifecycle_core.specs.Setting.{Setting}
use Rattle.lifecycle_core.specs.Shipped.{AreBuilt, IsInlineBlock, IsNotBuilt, IsPlanOf, IsRefused, IsRefusedAs, IsShipped, too_large_cause}

-- ---- what a script's block is built of

some_samples : (samples : List Sample) → samples ≢ [] → 0 < length samples
some_samples [] some = absurd (some (λ i. []))
some_samples (s ∷ samples) some = omega arith

of_block : (min_time max_time : ℤ) (plan : PlanFields) (s : Series) → plan.min_time ≡ min_time → plan.max_time ≡ max_time → HasLawfulSamples min_time max_time s → AreOfBlock plan s.samples
of_block min_time max_time plan s early late law = record {
  some = some_samples s.samples law.some;
  ascend = law.rising;
  within = recursion_from_All (IsWithin plan.min_time plan.max_time) s.samples
      (All-weaker (IsWithin min_time max_time) (IsWithin plan.min_time plan.max_time)
      (λ x inside. (subst (λ z. z ≤ℤ x.time) (sym early) inside.0, subst (λ z. x.time <ℤ z) (sym late) inside.1)) s.samples (within_spelled min_time max_time s.samples law.within));
}

pub buildable : (block : Block) (min_time max_time : ℤ) (series : List Series) (plan : BlockPlan) → IsLawfulBlock block → block.body ≡ Inline min_time max_time series → IsPlanOf block min_time max_time plan → AreBuildable (plan_fields plan) series
buildable block min_time max_time series plan lawful body is =
    let law : IsLawfulInline min_time max_time series = subst IsLawfulBody body lawful.body in
    record {
      ascend = law.ordered;
      samples = recursion_from_All (λ (s : Series). AreOfBlock (plan_fields plan) s.samples) series
          (All-weaker (HasLawfulSamples min_time max_time) (λ (s : Series). AreOfBlock (plan_fields plan) s.samples) (λ s own. of_block min_time max_time (plan_fields plan) s is.early is.late own) series law.samples);
    }

-- ---- what is shipped

-- the files are the block's
pub ulid_by : (block : Block) (min_time max_time : ℤ) (series : List Series) (plan : BlockPlan) (files : BlockFiles) → IsPlanOf block min_time max_time plan → IsBuilt plan series files → files.meta.ulid ≡ block.ulid
unfolding meta_with
ulid_by block min_time max_time series plan files is built =
    ap (λ (x : MetaFields). x.ulid) built.block_is.meta ∙ ap (λ (x : PlanFields). x.ulid) built.put_is.plan_is ∙ is.ulid

pub shipped_from : (setting : Setting) (block : Block) (min_time max_time : ℤ) (series : List Series) (plan : BlockPlan) (files : BlockFiles) (result : Result (List Object) BuildRefusal) → block.body ≡ Inline min_time max_time series
    → IsPlanOf block min_time max_time plan → IsBuilt plan series files → AreBytes files → IfOk result (λ objects. objects ≡ objects_of files.meta.ulid files.segments files.index (meta_text (fields_of files.meta)))
    → IfOk result (λ objects. IsShipped setting block objects)
shipped_from setting block min_time max_time series plan files (Ok objects) body is built bytes are =
    let own : IsInlineBlock block min_time max_time series objects = record {
      plan = plan;
      planned = is;
      files = files;
      built = built;
      bytes = bytes;
      are = are ∙ ap (λ n. objects_of n files.segments files.index (meta_text (fields_of files.meta))) (ulid_by block min_time max_time series plan files is built);
    } in
    subst (λ (b : Body). AreBuilt setting block b objects) (sym body) own
shipped_from setting block min_time max_time series plan files (Err why) body is built bytes are = tt

-- and what is not
pub refused_from : (setting : Setting) (block : Block) (min_time max_time : ℤ) (series : List Series) (plan : BlockPlan) → block.body ≡ Inline min_time max_time series → IsPlanOf block min_time max_time plan → HaveNoBlock plan series
    → IsRefused setting block too_large_cause
refused_from setting block min_time max_time series plan body is none =
    let own : IsNotBuilt block min_time max_time series too_large_cause = record { plan = plan; planned = is; none = none; is = λ i. too_large_cause } in
    subst (λ (b : Body). IsRefusedAs setting block b too_large_cause) (sym body) own

pub planned_same : (block : Block) (early early' late late' : ℤ) (plan : BlockPlan) → early ≡ early' → late ≡ late' → IsPlanOf block early late plan → IsPlanOf block early' late' plan
planned_same block early early' late late' plan e l is = subst (λ (x : ℤ). IsPlanOf block x late' plan) e (subst (λ (y : ℤ). IsPlanOf block early y plan) l is)
