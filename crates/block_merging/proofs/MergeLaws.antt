-- The laws of merges of blocks.
use Rattle.std.proofs.Common.{◌≡◌, ℕ, ◌<◌, ◌≤◌, List, length, refl, sym, ap, subst, ◌∙◌, arith}
use Rattle.block_writing.specs.Files.{AreFilesOf}
use Rattle.block_writing.proofs.OneText.{one_index}
use Rattle.index_writing.specs.WriteSteps.{greatest}
use Rattle.std.specs.List.{AllByRecursion, AllZip}
use Rattle.base.proofs.Lists.{AllByRecursion-weaker}
use Rattle.base.specs.Grammar.{IsBytes}
use Rattle.label_sets.specs.Counts.{sample_count}
use Rattle.label_sets.specs.declared.series.Series.{Series}
use Rattle.label_sets.specs.Triples.{Triple, triples_of}
use Rattle.vertical_merge.specs.Merged.{IsMerge, IsDeduplication}
use Rattle.vertical_merge.proofs.Laws.{deduplicates}
use Rattle.block_meta.specs.declared.block_plan.BlockPlan.{BlockPlan}
use Rattle.block_meta.specs.declared.block_files.BlockFiles.{BlockFiles}
use Rattle.block_content.specs.Content.{IsContent}
use Rattle.block_writing.specs.Put.{PutSeries}
use Rattle.block_writing.specs.Writing.{plan_fields}
use Rattle.block_merging.specs.PutContent.{AreSeriesOf, AreBytes}
use Rattle.block_merging.proofs.Content.{put_stands, written_holds, written_only}
use Rattle.block_merging.proofs.OneBlock.{written_once}
use Rattle.block_merging.specs.Inputs.{LiesWithin}
use Rattle.block_merging.specs.MergedBlock.{IsMergeOf, HaveNoMerge}
use Rattle.block_merging.specs.MergedContent.{all_triples}
use Rattle.block_merging.proofs.StoredInputs.{taken_stored}
use Rattle.block_merging.proofs.OneMerged.{all_series_once, puts_once}
use Rattle.block_merging.proofs.FirstOfBlocks.{given_of, merges_first}

pub indexes_bytes : (blocks : List BlockFiles) → AllByRecursion AreBytes blocks → AllByRecursion (λ block. IsBytes block.index) blocks
indexes_bytes blocks bytes = AllByRecursion-weaker AreBytes (λ block. IsBytes block.index) (λ block are. are.index) blocks bytes

pub merge_first : (plan : BlockPlan) (replicas : List (List ℕ)) (blocks : List BlockFiles) (block : BlockFiles) (contents : List (List Series)) (list : List Series) → AllByRecursion AreBytes blocks → AreBytes block → AllByRecursion (LiesWithin plan) blocks
    → AllZip IsContent blocks contents → IsMergeOf plan replicas blocks block → IsContent block list → IsMerge (all_triples plan.labels replicas contents) list
merge_first plan replicas blocks block contents list bytes own lie held is content =
    let indexes = indexes_bytes blocks bytes in
    let given = given_of plan.labels replicas blocks contents is.put_is.all indexes held is.put_is.all_are in
    subst (λ (l : List Triple). IsMerge l list) given.2
    (merges_first (plan_fields plan) is.put_is.all given.0 (λ s c among here. taken_stored plan replicas blocks is.put_is.all s c lie is.put_is.held indexes is.put_is.all_are among here) given.1
    is.put.series list is.put_is.series_are (written_only is.put block list own is.block_is content))

pub merge_deduplicates : (plan : BlockPlan) (replicas : List (List ℕ)) (blocks : List BlockFiles) (block : BlockFiles) (contents : List (List Series)) (list : List Series) → AllByRecursion AreBytes blocks → AreBytes block → AllByRecursion (LiesWithin plan) blocks
    → AllZip IsContent blocks contents → IsMergeOf plan replicas blocks block → IsContent block list → IsDeduplication (triples_of list) (all_triples plan.labels replicas contents)
merge_deduplicates plan replicas blocks block contents list bytes own lie held is content =
    deduplicates (all_triples plan.labels replicas contents) (all_triples plan.labels replicas contents) list refl (merge_first plan replicas blocks block contents list bytes own lie held is content)

pub merge_held : (plan : BlockPlan) (replicas : List (List ℕ)) (blocks : List BlockFiles) (block : BlockFiles) → IsMergeOf plan replicas blocks block → (list : List Series) × IsContent block list
merge_held plan replicas blocks block is = let w = put_stands is.put is.block_is.lawful in (w.0, written_holds is.put block w.0 is.block_is w.1)

pub merge_once : (plan : BlockPlan) (replicas : List (List ℕ)) (blocks : List BlockFiles) (block other : BlockFiles) → AllByRecursion AreBytes blocks → AllByRecursion (LiesWithin plan) blocks → IsMergeOf plan replicas blocks block → IsMergeOf plan replicas blocks other → block ≡ other
merge_once plan replicas blocks block other bytes lie is too =
    let series : is.put.series ≡ too.put.series = puts_once plan replicas blocks lie (indexes_bytes blocks bytes) is.put too.put is.put_is too.put_is in
    let lists : is.put_is.list ≡ too.put_is.list = all_series_once too.put.series is.put_is.list too.put_is.list (subst (λ (l : List PutSeries). AreSeriesOf l is.put_is.list) series is.put_is.list_is) too.put_is.list_is in
    written_once is.put too.put block other (is.put_is.plan_is ∙ sym too.put_is.plan_is) series (is.put_is.samples_are ∙ ap sample_count lists ∙ sym too.put_is.samples_are) is.block_is too.block_is

pub merge_or_none : (plan : BlockPlan) (replicas : List (List ℕ)) (blocks : List BlockFiles) (block : BlockFiles) → AllByRecursion AreBytes blocks → AllByRecursion (LiesWithin plan) blocks → IsMergeOf plan replicas blocks block → HaveNoMerge plan replicas blocks → ⊥
merge_or_none plan replicas blocks block bytes lie is none =
    let series : is.put.series ≡ none.put.series = puts_once plan replicas blocks lie (indexes_bytes blocks bytes) is.put none.put is.put_is none.put_is in
    let their : AreFilesOf is.put.series none.large.index none.large.segments = subst (λ (l : List PutSeries). AreFilesOf l none.large.index none.large.segments) (sym series) none.large.files in
    let index : block.index ≡ none.large.index = one_index is.put.series block.index none.large.index block.segments none.large.segments is.block_is.files their in
    let above : greatest < length block.index = subst (λ (i : List ℕ). greatest < length i) (sym index) none.large.large in
    let small : length block.index ≤ greatest = is.block_is.small in
    omega (arith, above, small)
