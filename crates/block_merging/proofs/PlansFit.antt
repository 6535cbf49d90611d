-- The times of blocks lie within those of their compaction's plan.
use Rattle.std.proofs.Common.{ℕ, List, map}
use Rattle.std.specs.Prelude.{◌≤ℤ◌}
use Rattle.std.specs.List.{AllByRecursion}
use Rattle.std.proofs.lemmas.List.Elements.{All-contains}
use Rattle.base.proofs.Membership.{all_members, into_map}
use Rattle.label_sets.specs.declared.label.Label.{Label}
use Rattle.block_meta.specs.declared.block_plan.BlockPlan.{BlockPlan}
use Rattle.block_meta.specs.declared.meta.Meta.{Meta}
use Rattle.block_meta.specs.declared.block_files.BlockFiles.{BlockFiles}
use Rattle.vertical_merge.specs.Compacted.{IsCompactedPlan}
use Rattle.block_merging.specs.Inputs.{LiesWithin}

pub compacted_lie : (inputs : List BlockFiles) (ulid : ℕ) (labels : List Label) (plan : BlockPlan) → IsCompactedPlan (map (λ (b : BlockFiles). b.meta) inputs) ulid labels plan → AllByRecursion (LiesWithin plan) inputs
compacted_lie inputs ulid labels plan is = all_members (LiesWithin plan) inputs (λ b among. record {
  begin = All-contains (λ (meta : Meta). plan.min_time ≤ℤ meta.min_time) (map (λ (b : BlockFiles). b.meta) inputs) b.meta is.begin.none_below (into_map (λ (b : BlockFiles). b.meta) inputs b among);
  end = All-contains (λ (meta : Meta). meta.max_time ≤ℤ plan.max_time) (map (λ (b : BlockFiles). b.meta) inputs) b.meta is.end.none_above (into_map (λ (b : BlockFiles). b.meta) inputs b among);
})
