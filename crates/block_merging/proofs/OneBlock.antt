-- Two blocks that are built of the same plan and series are the same files.
use Rattle.std.proofs.Common.{◌≡◌, ℕ, List, length, sym, ap, subst, ◌∙◌}
use Rattle.label_sets.specs.declared.series.Series.{Series}
use Rattle.block_meta.specs.MetaFields.{fields_of}
use Rattle.block_meta.specs.declared.block_plan.BlockPlan.{BlockPlan}
use Rattle.block_meta.specs.declared.block_files.BlockFiles.{BlockFiles}
use Rattle.block_content.proofs.SameFiles.{same_files}
use Rattle.block_writing.specs.Put.{PutSeries, PlanFields, Put, contents_of, fitted}
use Rattle.block_writing.specs.Files.{AreFilesOf}
use Rattle.block_writing.specs.declared.counts.Counts.{Counts}
use Rattle.block_writing.specs.WrittenMeta.{meta_with, counts_of, IsWritten}
use Rattle.block_writing.specs.Built.{IsBuilt}
use Rattle.block_writing.proofs.OnePut.{put_once}
use Rattle.block_writing.proofs.OneText.{one_index, one_segments}

same_counts : (p q : Put) → p.series ≡ q.series → p.samples ≡ q.samples → counts_of p ≡ counts_of q
same_counts p q series samples =
    ap (λ (l : List PutSeries). record { series = fitted (length l); samples = p.samples; chunks = fitted (length (contents_of l)) }) series
    ∙ ap (λ (n : ℕ). record { series = fitted (length q.series); samples = n; chunks = fitted (length (contents_of q.series)) }) samples

same_meta : (p q : PlanFields) (c d : Counts) (i j : List ℕ) (s t : List (List ℕ)) → p ≡ q → c ≡ d → i ≡ j → s ≡ t → meta_with p c i s ≡ meta_with q d j t
same_meta p q c d i j s t plan counts index segments =
    ap (λ (x : PlanFields). meta_with x c i s) plan ∙ ap (λ (x : Counts). meta_with q x i s) counts ∙ ap (λ (x : List ℕ). meta_with q d x s) index ∙ ap (λ (x : List (List ℕ)). meta_with q d j x) segments

-- two blocks of what was put alike
pub written_once : (put other : Put) (files others : BlockFiles) → put.plan ≡ other.plan → put.series ≡ other.series → put.samples ≡ other.samples → IsWritten put files → IsWritten other others → files ≡ others
written_once put other files others plan puts samples is too =
    let their : AreFilesOf put.series others.index others.segments = subst (λ (l : List PutSeries). AreFilesOf l others.index others.segments) (sym puts) too.files in
    let index : files.index ≡ others.index = one_index put.series files.index others.index files.segments others.segments is.files their in
    let segments : files.segments ≡ others.segments = one_segments put.series files.index others.index files.segments others.segments is.files their in
    let counts : counts_of put ≡ counts_of other = same_counts put other puts samples in
    let fields : fields_of files.meta ≡ fields_of others.meta = is.meta ∙ same_meta put.plan other.plan (counts_of put) (counts_of other) files.index others.index files.segments others.segments plan counts index segments ∙ sym too.meta in
    same_files files others fields index segments

pub built_once : (plan : BlockPlan) (series : List Series) (files other : BlockFiles) → IsBuilt plan series files → IsBuilt plan series other → files ≡ other
built_once plan series files other is too =
    let puts : is.put.series ≡ too.put.series = put_once series is.put.series too.put.series is.put_is.series_are too.put_is.series_are in
    written_once is.put too.put files other (is.put_is.plan_is ∙ sym too.put_is.plan_is) puts (is.put_is.samples_are ∙ sym too.put_is.samples_are) is.block_is too.block_is
