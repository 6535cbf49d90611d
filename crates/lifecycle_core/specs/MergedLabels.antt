-- What blocks hold under their final labels, and the block that they are merged into.
use Rattle.std.specs.Prelude.{◌≡◌, ℕ, List, map}
use Rattle.std.specs.List.{AllByRecursion, flat_map}
use Rattle.label_sets.specs.declared.label.Label.{Label}
use Rattle.label_sets.specs.declared.series.Series.{Series}
use Rattle.label_sets.specs.Finals.{final_of, without}
use Rattle.label_sets.specs.Labels.{IsLabelSet}
use Rattle.label_sets.specs.Triples.{IsOneToOne, Triple, triples_under}
use Rattle.block_meta.specs.declared.block_plan.BlockPlan.{BlockPlan}
use Rattle.block_meta.specs.declared.block_files.BlockFiles.{BlockFiles}
use Rattle.block_merging.specs.PutContent.{AreBytes}
use Rattle.block_content.specs.Content.{IsContent}
use Rattle.block_merging.specs.MergedBlock.{IsMergeOf}
use Rattle.vertical_merge.specs.Compacted.{IsCompactedPlan}

-- the samples of series under their final labels, where these are the block's labels
abbrev pub seen_as : List Label → List (List ℕ) → List Series → List Triple
seen_as labels replicas list = flat_map (λ s. triples_under (final_of s.labels labels replicas) s.samples) list

-- The block holds this, each sample of it once, and nothing else.
pub record Holds (replicas : List (List ℕ)) (block : BlockFiles) (held : List Triple) : Type 0 where
  pub list : List Series
  pub content : IsContent block list
  pub one_to_one : IsOneToOne (seen_as block.meta.labels replicas list) held

-- Blocks of one group, whose labels but for the replica labels are these, and the block into which they are merged.
pub record AreMergedAs (replicas : List (List ℕ)) (ulid : ℕ) (labels : List Label) (blocks : List BlockFiles) (block : BlockFiles) : Type 0 where
  pub bytes : AllByRecursion AreBytes blocks
  pub own : AreBytes block
  pub sets : AllByRecursion (λ one. IsLabelSet one.meta.labels) blocks
  pub grouped : AllByRecursion (λ one. without replicas one.meta.labels ≡ labels) blocks
  pub plan : BlockPlan
  pub planned : IsCompactedPlan (map (λ one. one.meta) blocks) ulid labels plan
  pub merged : IsMergeOf plan replicas blocks block
