-- The block that several blocks are merged into.
use Rattle.std.specs.Prelude.{◌≡◌, ◌≢◌, ℕ, List, [], map, Bool, Contains}
use Rattle.std.specs.List.{filter, flat_map, AllByRecursion}
use Rattle.std.specs.List.Sorted.{IsStrictlySortedBy}
use Rattle.std.specs.Ordering.{is_eq}
use Rattle.label_sets.specs.Counts.{sample_count}
use Rattle.label_sets.specs.Labels.{compare_sets}
use Rattle.label_sets.specs.declared.label.Label.{Label}
use Rattle.label_sets.specs.declared.series.Series.{Series}
use Rattle.block_meta.specs.declared.block_plan.BlockPlan.{BlockPlan}
use Rattle.block_meta.specs.declared.block_files.BlockFiles.{BlockFiles}
use Rattle.block_writing.specs.Put.{PutChunk, PutSeries, Put}
use Rattle.block_writing.specs.Files.{HaveNoIndex}
use Rattle.block_writing.specs.Writing.{plan_fields}
use Rattle.block_writing.specs.WrittenMeta.{IsWritten}
use Rattle.block_merging.specs.PutContent.{AreSeriesOf}
use Rattle.block_merging.specs.Inputs.{HasContent, AreTaken}
use Rattle.block_merging.specs.MergedSeries.{IsMergedSeries}

abbrev pub has_labels : List Label → PutSeries → Bool
has_labels labels series = is_eq (compare_sets series.labels labels)

-- the chunks of all series with these labels, one series after another
abbrev pub chunks_under : List Label → List PutSeries → List PutChunk
chunks_under labels all = flat_map (λ s. s.chunks) (filter (has_labels labels) all)

-- Series of several blocks become these: their labels ascend, each is the merge of all chunks under its labels, of which there is
-- one at least, and the labels of each series with a chunk are among them.
pub record AreMerges (all merged : List PutSeries) : Type 0 where
  pub ascend : IsStrictlySortedBy compare_sets (map (λ s. s.labels) merged)
  pub some : AllByRecursion (λ s. chunks_under s.labels all ≢ []) merged
  pub each : AllByRecursion (λ s. IsMergedSeries s.labels (chunks_under s.labels all) s) merged
  pub complete : AllByRecursion (λ s. s.chunks ≢ [] → Contains (map (λ m. m.labels) merged) s.labels) all

-- What is put of the plan and the blocks, each of which holds something that can be read.
pub record IsMergedPut (plan : BlockPlan) (replicas : List (List ℕ)) (blocks : List BlockFiles) (put : Put) : Type 0 where
  pub held : AllByRecursion HasContent blocks
  pub all : List PutSeries
  pub all_are : AreTaken plan.labels replicas blocks all
  pub series_are : AreMerges all put.series
  pub plan_is : put.plan ≡ plan_fields plan
  pub nothing_left : put.chunks ≡ []
  pub list : List Series
  pub list_is : AreSeriesOf put.series list
  pub samples_are : put.samples ≡ sample_count list

-- The block is the merge.
pub record IsMergeOf (plan : BlockPlan) (replicas : List (List ℕ)) (blocks : List BlockFiles) (block : BlockFiles) : Type 0 where
  pub put : Put
  pub put_is : IsMergedPut plan replicas blocks put
  pub block_is : IsWritten put block

-- The merge would have an index that passes its greatest length.
pub record HaveNoMerge (plan : BlockPlan) (replicas : List (List ℕ)) (blocks : List BlockFiles) : Type 0 where
  pub put : Put
  pub put_is : IsMergedPut plan replicas blocks put
  pub large : HaveNoIndex put.series
