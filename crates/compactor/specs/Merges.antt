-- What becomes of the blocks that a compaction read: one block, unless one of them is not as it may be, or the index of their merge
-- would pass its greatest length.
use Rattle.std.specs.Prelude.{◌≡◌, ℕ, List, map, Some, slice_get}
use Rattle.std.specs.List.{AllZip}
use Rattle.label_sets.specs.declared.label.Label.{Label}
use Rattle.block_meta.specs.declared.block_plan.BlockPlan.{BlockPlan}
use Rattle.block_meta.specs.declared.block_files.BlockFiles.{BlockFiles}
use Rattle.block_content.specs.ContentRefusals.{HasBadChunk}
use Rattle.block_content.specs.declared.check_refusal.CheckRefusal.{CheckRefusal}
use Rattle.block_content.specs.declared.check_refusal.CheckRefusal.TheVariants.{BadChunk}
use Rattle.vertical_merge.specs.Compacted.{IsCompactedPlan}
use Rattle.block_merging.specs.Inputs.{IsFirstRefused}
use Rattle.block_merging.specs.MergedBlock.{IsMergeOf, HaveNoMerge}
use Rattle.compactor.specs.Inputs.{IsInput}
use Rattle.compactor.specs.declared.merging.Merging.{Merging}
use Rattle.compactor.specs.declared.merging.Merging.TheVariants.{Merged, Refused, TooLarge}
use Rattle.compactor.specs.declared.input.Input.{Input}

-- the blocks' files, and what the merge will say of itself
pub record Given (ulid : ℕ) (labels : List Label) (inputs : List Input) : Type 0 where
  pub blocks : List BlockFiles
  pub read : AllZip IsInput inputs blocks
  pub plan : BlockPlan
  pub planned : IsCompactedPlan (map (λ (block : BlockFiles). block.meta) blocks) ulid labels plan

-- Where the cause of a refusal was read: a chunk that is refused stands in its segment, and the index tells of all else.
abbrev pub WasReadAt : Input → BlockFiles → CheckRefusal → ℕ → Type 0
WasReadAt input block (BadChunk series chunk cause) number =
    (bad : HasBadChunk block series chunk cause) × (slice_get (map (λ segment. segment.number) input.segments) bad.first.bad.member.segment ≡ Some number)
WasReadAt input block other number = number ≡ input.index.number

-- the first block whose files hold nothing that can be read, and the entry of the read that shows it
pub record IsRefused (inputs : List Input) (blocks : List BlockFiles) (number : ℕ) : Type 0 where
  pub place : ℕ
  pub cause : CheckRefusal
  pub first : IsFirstRefused blocks place cause
  pub input : Input
  pub stands : slice_get inputs place ≡ Some input
  pub shown : WasReadAt input first.member cause number

abbrev pub IsMerging : List (List ℕ) → ℕ → List Label → List Input → Merging → Type 0
IsMerging replicas ulid labels inputs (Merged block) =
    (given : Given ulid labels inputs) × IsMergeOf given.plan replicas given.blocks block
IsMerging replicas ulid labels inputs (Refused number) =
    (given : Given ulid labels inputs) × IsRefused inputs given.blocks number
IsMerging replicas ulid labels inputs TooLarge =
    (given : Given ulid labels inputs) × HaveNoMerge given.plan replicas given.blocks
