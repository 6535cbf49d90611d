-- What blocks become that were read is one.
use Rattle.std.proofs.Common.{◌≡◌, ℕ, ◌<◌, List, [], ◌∷◌, map, length, refl, sym, ap, subst, ◌∙◌, arith}
use Rattle.std.specs.List.{AllByRecursion, AllZip}
use Rattle.label_sets.specs.declared.label.Label.{Label}
use Rattle.block_meta.specs.MetaFields.{fields_of}
use Rattle.block_meta.specs.declared.block_plan.BlockPlan.{BlockPlan}
use Rattle.block_meta.specs.declared.block_files.BlockFiles.{BlockFiles}
use Rattle.block_content.proofs.SameFiles.{same_files}
use Rattle.block_merging.specs.PutContent.{AreBytes}
use Rattle.block_writing.specs.Put.{PutSeries}
use Rattle.block_writing.specs.Files.{AreFilesOf}
use Rattle.block_writing.proofs.OneText.{one_index}
use Rattle.index_writing.specs.WriteSteps.{greatest}
use Rattle.vertical_merge.specs.Compacted.{IsCompactedPlan}
use Rattle.block_merging.specs.Inputs.{LiesWithin}
use Rattle.block_merging.specs.MergedBlock.{IsMergeOf, HaveNoMerge}
use Rattle.block_merging.proofs.OneMerged.{puts_once}
use Rattle.block_merging.proofs.PlansFit.{compacted_lie}
use Rattle.block_merging.proofs.MergeLaws.{merge_once, indexes_bytes}
use Rattle.compactor.specs.Inputs.{IsInput}
use Rattle.compactor.specs.declared.input.Input.{Input}
use Rattle.compactor.specs.Merges.{Given, IsRefused, IsMerging}
use Rattle.compactor.specs.declared.merging.Merging.{Merging}
use Rattle.compactor.specs.declared.merging.Merging.TheVariants.{Merged, Refused, TooLarge}
use Rattle.vertical_merge.proofs.OnePlan.{one_compacted}
use Rattle.compactor.specs.OneRefusal.{none_refused, refused_once}

-- ---- what is given

blocks_once : (inputs : List Input) (bs cs : List BlockFiles) → AllZip IsInput inputs bs → AllZip IsInput inputs cs → bs ≡ cs
blocks_once [] [] [] is so = refl
blocks_once [] (b ∷ bs) cs is so = absurd is
blocks_once [] [] (c ∷ cs) is so = absurd so
blocks_once (input ∷ inputs) [] cs is so = absurd is
blocks_once (input ∷ inputs) (b ∷ bs) [] is so = absurd so
blocks_once (input ∷ inputs) (b ∷ bs) (c ∷ cs) is so =
    let first : b ≡ c = same_files b c (ap fields_of (is.0.meta ∙ sym so.0.meta)) (is.0.index ∙ sym so.0.index) (is.0.segments ∙ sym so.0.segments) in
    let rest : bs ≡ cs = blocks_once inputs bs cs is.1 so.1 in λ i. first i ∷ rest i

all_bytes : (inputs : List Input) (blocks : List BlockFiles) → AllZip IsInput inputs blocks → AllByRecursion AreBytes blocks
all_bytes [] [] are = tt
all_bytes [] (b ∷ bs) are = absurd are
all_bytes (input ∷ inputs) [] are = absurd are
all_bytes (input ∷ inputs) (b ∷ bs) are = (are.0.bytes, all_bytes inputs bs are.1)

module _ (ulid : ℕ) (labels : List Label) (inputs : List Input) (g h : Given ulid labels inputs) where
  same_blocks : g.blocks ≡ h.blocks
  same_blocks = blocks_once inputs g.blocks h.blocks g.read h.read

  same_plan : g.plan ≡ h.plan
  same_plan = one_compacted (map (λ (b : BlockFiles). b.meta) g.blocks) ulid labels g.plan h.plan g.planned
      (subst (λ (bs : List BlockFiles). IsCompactedPlan (map (λ (b : BlockFiles). b.meta) bs) ulid labels h.plan) (sym same_blocks) h.planned)

  -- what is known of the one is known of the other
  pub moved : (P : BlockPlan → List BlockFiles → Type 0) → P h.plan h.blocks → P g.plan g.blocks
  moved P is = subst (λ (p : BlockPlan). P p g.blocks) (sym same_plan) (subst (P h.plan) (sym same_blocks) is)

-- ---- what it becomes

module _ (replicas : List (List ℕ)) (ulid : ℕ) (labels : List Label) (inputs : List Input) where
  lie : (g : Given ulid labels inputs) → AllByRecursion (LiesWithin g.plan) g.blocks
  lie g = compacted_lie g.blocks ulid labels g.plan g.planned

  bytes : (g : Given ulid labels inputs) → AllByRecursion AreBytes g.blocks
  bytes g = all_bytes inputs g.blocks g.read

  not_large : (g h : Given ulid labels inputs) (block : BlockFiles) → IsMergeOf g.plan replicas g.blocks block → HaveNoMerge h.plan replicas h.blocks → ⊥
  not_large g h block is none =
      let none' : HaveNoMerge g.plan replicas g.blocks = moved ulid labels inputs g h (λ p bs. HaveNoMerge p replicas bs) none in
      let series : is.put.series ≡ none'.put.series = puts_once g.plan replicas g.blocks (lie g) (indexes_bytes g.blocks (bytes g)) is.put none'.put is.put_is none'.put_is in
      let files : AreFilesOf is.put.series none'.large.index none'.large.segments = subst (λ (l : List PutSeries). AreFilesOf l none'.large.index none'.large.segments) (sym series) none'.large.files in
      let same : block.index ≡ none'.large.index = one_index is.put.series block.index none'.large.index block.segments none'.large.segments is.block_is.files files in
      absurd (let more : greatest < length block.index = subst (λ (l : List ℕ). greatest < length l) (sym same) none'.large.large in let few = is.block_is.small in omega (arith, more, few))

  not_refused : (g h : Given ulid labels inputs) (block : BlockFiles) (number : ℕ) → IsMergeOf g.plan replicas g.blocks block → IsRefused inputs h.blocks number → ⊥
  not_refused g h block number is so =
      let so' : IsRefused inputs g.blocks number = moved ulid labels inputs g h (λ p bs. IsRefused inputs bs number) so in
      none_refused g.blocks so'.place so'.cause (bytes g) is.put_is.held so'.first

  large_not_refused : (g h : Given ulid labels inputs) (number : ℕ) → HaveNoMerge g.plan replicas g.blocks → IsRefused inputs h.blocks number → ⊥
  large_not_refused g h number is so =
      let so' : IsRefused inputs g.blocks number = moved ulid labels inputs g h (λ p bs. IsRefused inputs bs number) so in
      none_refused g.blocks so'.place so'.cause (bytes g) is.put_is.held so'.first

  pub one_merging : (one other : Merging) → IsMerging replicas ulid labels inputs one → IsMerging replicas ulid labels inputs other → one ≡ other
  one_merging (Merged block) (Merged other) (g, is) (h, so) =
      ap (λ (b : BlockFiles). Merged b) (merge_once g.plan replicas g.blocks block other (bytes g) (lie g) is (moved ulid labels inputs g h (λ p bs. IsMergeOf p replicas bs other) so))
  one_merging (Merged block) (Refused number) (g, is) (h, so) = absurd (not_refused g h block number is so)
  one_merging (Merged block) TooLarge (g, is) (h, so) = absurd (not_large g h block is so)
  one_merging (Refused number) (Merged block) (g, is) (h, so) = absurd (not_refused h g block number so is)
  one_merging (Refused number) (Refused other) (g, is) (h, so) =
      ap (λ (n : ℕ). Refused n) (refused_once inputs g.blocks number other (bytes g) is (moved ulid labels inputs g h (λ p bs. IsRefused inputs bs other) so))
  one_merging (Refused number) TooLarge (g, is) (h, so) = absurd (large_not_refused h g number so is)
  one_merging TooLarge (Merged block) (g, is) (h, so) = absurd (not_large h g block so is)
  one_merging TooLarge (Refused number) (g, is) (h, so) = absurd (large_not_refused g h number is so)
  one_merging TooLarge TooLarge is so = refl
