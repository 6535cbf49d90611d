use Rattle.std.proofs.Common.{List, sym, ap, subst, map, Err}
use Rattle.std.specs.List.{AllByRecursion}
use Rattle.block_meta.specs.declared.block_files.BlockFiles.{BlockFiles}
use Rattle.block_merging.specs.Inputs.{LiesWithin}
use Rattle.block_merging.specs.MergedBlock.{IsMergeOf, HaveNoMerge}
use Rattle.block_merging.proofs.PlansFit.{compacted_lie}
use Rattle.vertical_merge.specs.Compacted.{IsCompactedPlan}
use Rattle.compactor.proofs.MergedInputs.{given_so}
use Rattle.compactor.proofs.merging.merge_files.Goals as goal

pub merge_blocks-merged-requires : goal.merge_blocks-merged-requires
merge_blocks-merged-requires c =
    subst (AllByRecursion (LiesWithin c.in_ok-plan.plan)) (sym c.members-2.ensures)
    (compacted_lie c.args.files.now.blocks c.args.ulid c.args.labels.now c.in_ok-plan.plan
    (subst (λ (bs : List BlockFiles). IsCompactedPlan (map (λ (b : BlockFiles). b.meta) bs) c.args.ulid c.args.labels.now c.in_ok-plan.plan) c.members.ensures c.in_ok-plan.ensures))

pub returns-in-Ok : goal.returns-in-Ok
returns-in-Ok c = λ inputs files. (
  given_so inputs c.args.files.now.blocks c.args.ulid c.args.labels.now c.in_ok-plan.plan files.read
      (subst (λ (bs : List BlockFiles). IsCompactedPlan (map (λ (b : BlockFiles). b.meta) bs) c.args.ulid c.args.labels.now c.in_ok-plan.plan) c.members.ensures c.in_ok-plan.ensures),
  subst (λ bs. IsMergeOf c.in_ok-plan.plan c.args.replicas.now bs c.in-Ok.block) c.members-2.ensures c.in-Ok.ensures.merged,
)

pub returns-in_ok-number-in-Err-Input : goal.returns-in_ok-number-in-Err-Input
returns-in_ok-number-in-Err-Input c = λ inputs files. (
  given_so inputs c.args.files.now.blocks c.args.ulid c.args.labels.now c.in_ok-plan.plan files.read
      (subst (λ (bs : List BlockFiles). IsCompactedPlan (map (λ (b : BlockFiles). b.meta) bs) c.args.ulid c.args.labels.now c.in_ok-plan.plan) c.members.ensures c.in_ok-plan.ensures),
  c.in_ok-number-in-Err-Input.ensures inputs files.read files.numbers_are,
)

pub returns-in-Err-TooLarge : goal.returns-in-Err-TooLarge
returns-in-Err-TooLarge c = λ inputs files. (
  given_so inputs c.args.files.now.blocks c.args.ulid c.args.labels.now c.in_ok-plan.plan files.read
      (subst (λ (bs : List BlockFiles). IsCompactedPlan (map (λ (b : BlockFiles). b.meta) bs) c.args.ulid c.args.labels.now c.in_ok-plan.plan) c.members.ensures c.in_ok-plan.ensures),
  subst (λ bs. HaveNoMerge c.in_ok-plan.plan c.args.replicas.now bs) c.members-2.ensures (c.in-Err-TooLarge.ensures.too_large (ap (λ e. Err e) c.in-Err-TooLarge.field-0-is)),
)
