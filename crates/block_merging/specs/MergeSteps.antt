-- The steps of a merge of blocks.
use Rattle.std.specs.Prelude.{◌≡◌, ℕ, List, [], ◌∷◌, Result, Err, IfOk, IfErr, ◌⊎◌}
use Rattle.std.specs.List.{AllByRecursion}
use Rattle.label_sets.specs.Counts.{sample_count}
use Rattle.label_sets.specs.declared.label.Label.{Label}
use Rattle.label_sets.specs.declared.series.Series.{Series}
use Rattle.block_meta.specs.declared.block_files.BlockFiles.{BlockFiles}
use Rattle.block_content.specs.ContentReading.{fitted}
use Rattle.block_content.specs.ContentRefusals.{RefusesContent}
use Rattle.block_content.specs.declared.check_refusal.CheckRefusal.{CheckRefusal}
use Rattle.block_content.specs.declared.check_refusal.CheckRefusal.TheVariants as check
use Rattle.block_writing.specs.Put.{PutChunk, PutSeries, PlanFields, Put}
use Rattle.block_merging.specs.PutContent.{AreSeriesOf}
use Rattle.block_merging.specs.declared.merge_refusal.MergeRefusal.{MergeRefusal}
use Rattle.block_merging.specs.declared.merge_refusal.MergeRefusal.TheVariants.{Input, NoMemory}
use Rattle.block_merging.specs.Inputs.{HasContent, IsFirstRefused}
use Rattle.block_merging.specs.MergedBlock.{AreMerges}
use Rattle.block_merging.specs.MergedSeries.{HasMerged}

-- A test of a block tells that it holds something that can be read, or why it does not, or that memory ran out.
pub record IsTest {X : Type 0} (block : BlockFiles) (result : Result X CheckRefusal) : Type 0 where
  pub held : IfOk result (λ _. HasContent block)
  pub refused : IfErr result (λ cause. (cause ≡ check.NoMemory) ⊎ RefusesContent block cause)
  pub only : HasContent block → IfErr result (λ cause. cause ≡ check.NoMemory)
  pub refuses : (cause : CheckRefusal) → RefusesContent block cause → (result ≡ Err cause) ⊎ (result ≡ Err check.NoMemory)

abbrev pub refused_input : ℕ → CheckRefusal → MergeRefusal
refused_input number check.NoMemory = NoMemory
refused_input number cause = Input number cause

-- A test of all blocks tells the same of the first that holds nothing that can be read.
pub record AreTests {X : Type 0} (blocks : List BlockFiles) (result : Result X MergeRefusal) : Type 0 where
  pub held : IfOk result (λ _. AllByRecursion HasContent blocks)
  pub refused : IfErr result (λ refusal. (refusal ≡ NoMemory) ⊎ ((place : ℕ) × (cause : CheckRefusal) × IsFirstRefused blocks place cause × (refusal ≡ Input (fitted place) cause)))
  pub only : AllByRecursion HasContent blocks → IfErr result (λ refusal. refusal ≡ NoMemory)
  pub refuses : (place : ℕ) (cause : CheckRefusal) → IsFirstRefused blocks place cause → (result ≡ Err (Input (fitted place) cause)) ⊎ (result ≡ Err NoMemory)

-- the merge of chunks was put, where there are any
abbrev pub HasGroup : Put → List Label → List PutChunk → Put → Type 0
HasGroup old labels [] new = new ≡ old
HasGroup old labels (chunk ∷ chunks) new = HasMerged old labels (chunk ∷ chunks) new

-- the merge of series was put
pub record HasAll (plan : PlanFields) (series : List PutSeries) (new : Put) : Type 0 where
  pub merged : AreMerges series new.series
  pub plan_is : new.plan ≡ plan
  pub nothing_left : new.chunks ≡ []
  pub list : List Series
  pub list_is : AreSeriesOf new.series list
  pub samples_are : new.samples ≡ sample_count list
