-- A block that is built of a declared block's series is a whole one, and the only one; and it is not built where it is refused.
use Rattle.std.proofs.Common.{◌≡◌, ℕ, ℤ, zero, suc, ◌+◌, ◌<◌, ◌≤◌, ◌^◌, true, false, pos, List, [], ◌∷◌, ◌++◌, length, codes, Some, Ok, IsUtf8, rules, refl, sym, ◌∙◌, ap, subst, arith}
use Rattle.std.specs.Prelude.{IfSome, All, find, option_map}
use Rattle.std.specs.List.{AllByRecursion, AllZip}
use Rattle.std.specs.Str.{bytes_eq}
use Rattle.std.proofs.lemmas.Str.{IsUtf8-append}
use Rattle.std.proofs.lemmas.List.Elements.{All-append, All-cons, All-nil}
use Rattle.base.proofs.Lists.{AllByRecursion-map}
use Rattle.label_sets.specs.declared.label.Label.{Label}
use Rattle.label_sets.specs.declared.series.Series.{Series}
use Rattle.label_sets.specs.Counts.{sample_count}
use Rattle.label_sets.specs.Labels.{IsLabelSet}
use Rattle.label_sets.specs.SetText.{AreNamed}
use Rattle.block_keys.specs.KeyText.{six_digits}
use Rattle.block_keys.specs.declared.object.Object.{Object}
use Rattle.block_meta.specs.Bounds.{FitsParent}
use Rattle.block_meta.specs.declared.block_plan.BlockPlan.{BlockPlan}
use Rattle.block_meta.specs.declared.file_size.FileSize.{FileSize}
use Rattle.block_meta.specs.MetaFields.{MetaFields, fields_of}
use Rattle.block_meta.specs.MetaReading.{meta_of_text}
use Rattle.block_meta.specs.MetaValue.{meta_text}
use Rattle.block_meta.specs.Built.{objects_of}
use Rattle.block_meta.specs.declared.block_files.BlockFiles.{BlockFiles}
use Rattle.chunk_files.specs.Layout.{greatest}
use Rattle.index_writing.specs.WriteSteps as index_writing
use Rattle.block_writing.specs.Put.{PlanFields, fitted}
use Rattle.block_writing.specs.Writing.{plan_fields}
use Rattle.block_writing.specs.Files.{HaveNoIndex}
use Rattle.block_writing.specs.Segments.{segment_text}
use Rattle.block_writing.specs.WrittenMeta.{counts_of, index_size, meta_with, names_from, segment_size, sizes_from, sizes_of}
use Rattle.block_writing.specs.Built.{IsBuilt}
use Rattle.block_writing.proofs.Names.{IsUtf8-six_digits}
use Rattle.block_writing.proofs.OnePut.{put_once}
use Rattle.block_writing.proofs.OneText.{one_index}
use Rattle.block_content.specs.Content.{AreWithin, HoldsSeries, IsContent}
use Rattle.block_merging.proofs.Content.{built_holds}
use Rattle.block_merging.proofs.OneBlock.{written_once}
use Rattle.script_core.specs.declared.block.Block.{Block}
use Rattle.script_core.specs.declared.body.Body.TheVariants.{Inline}
use Rattle.lifecycle_core.specs.Held.{given_by}
use Rattle.lifecycle_core.specs.Setting.{Setting}
use Rattle.lifecycle_core.specs.Shipped.{IsInlineBlock, IsNotBuilt, IsPlanOf}
use Rattle.lifecycle_core.proofs.blocks.MetasAgain.{IsReadAgain, meta_read_again}
use Rattle.lifecycle_core.proofs.blocks.Whole.{IsWholeBlock, Spans, told_size}

-- ---- plans

one_plan : (block : Block) (low high : ℤ) (one other : BlockPlan) → IsPlanOf block low high one → IsPlanOf block low high other → plan_fields one ≡ plan_fields other
one_plan block low high one other is so =
    let ulid : one.ulid ≡ other.ulid = is.ulid ∙ sym so.ulid in
    let early : one.min_time ≡ other.min_time = is.early ∙ sym so.early in
    let late : one.max_time ≡ other.max_time = is.late ∙ sym so.late in
    let level : one.level ≡ other.level = is.level ∙ sym so.level in
    let sources : one.sources ≡ other.sources = is.sources ∙ sym so.sources in
    let parents : one.parents ≡ other.parents = is.parents ∙ sym so.parents in
    let labels : one.labels ≡ other.labels = is.labels ∙ sym so.labels in
    let source : one.source ≡ other.source = is.source ∙ sym so.source in
    λ i. record { ulid = ulid i; min_time = early i; max_time = late i; level = level i; sources = sources i; parents = parents i; labels = labels i; source = source i }

-- ---- one block

one_block : (one other : BlockPlan) (series : List Series) (files others : BlockFiles) → plan_fields one ≡ plan_fields other → IsBuilt one series files → IsBuilt other series others → files ≡ others
one_block one other series files others same is so =
    written_once is.put so.put files others (is.put_is.plan_is ∙ same ∙ sym so.put_is.plan_is)
    (put_once series is.put.series so.put.series is.put_is.series_are so.put_is.series_are) (is.put_is.samples_are ∙ sym so.put_is.samples_are) is.block_is so.block_is

pub one_inline : (block : Block) (low high : ℤ) (series : List Series) (objects others : List Object) → IsInlineBlock block low high series objects → IsInlineBlock block low high series others → objects ≡ others
one_inline block low high series objects others is so =
    let files : is.files ≡ so.files = one_block is.plan so.plan series is.files so.files (one_plan block low high is.plan so.plan is.planned so.planned) is.built so.built in
    is.are ∙ ap (λ (f : BlockFiles). objects_of block.ulid f.segments f.index (meta_text (fields_of f.meta))) files ∙ sym so.are

-- it is not built where its index would be too large
pub not_both : (block : Block) (low high : ℤ) (series : List Series) (objects : List Object) (cause : ℕ) → IsInlineBlock block low high series objects → IsNotBuilt block low high series cause → ⊥
not_both block low high series objects cause is none =
    let puts : none.none.put.series ≡ is.built.put.series =
    put_once series none.none.put.series is.built.put.series none.none.put_is.series_are is.built.put_is.series_are in
    let large : HaveNoIndex is.built.put.series = subst HaveNoIndex puts none.none.large in
    let same : large.index ≡ is.files.index =
    one_index is.built.put.series large.index is.files.index large.segments is.files.segments large.files is.built.block_is.files in
    let more = large.large in
    let small = is.built.block_is.small in
    absurd (omega (arith, more, small, ap length same))

-- ---- the sizes of its files

abbrev pub NotIndex : FileSize → Type 0
NotIndex file = bytes_eq file.path (codes "index") ≡ false

pub find_behind : (files : List FileSize) (last : FileSize) → AllByRecursion NotIndex files → bytes_eq last.path (codes "index") ≡ true → find (λ (file : FileSize). bytes_eq file.path (codes "index")) (files ++ last ∷ []) ≡ Some last
find_behind [] last none is = rw is refl
find_behind (file ∷ files) last none is = rw none.0 (find_behind files last none.1 is)

segments_other : (number : ℕ) (segments : List (List ℕ)) → AllByRecursion NotIndex (sizes_from number segments)
unfolding sizes_from
segments_other number [] = tt
segments_other number (segment ∷ segments) = (refl, segments_other (number + 1) segments)

pub index_told : (segments : List (List ℕ)) (index : List ℕ) → length index ≤ index_writing.greatest → told_size (sizes_of segments index) ≡ Some (length index)
unfolding sizes_of
index_told segments index small =
    let fits : fitted (length index) ≡ length index = omega (arith, small) in
    ap (option_map (λ (file : FileSize). file.bytes)) (find_behind (sizes_from 1 segments) (index_size index) (segments_other 1 segments) refl) ∙ ap (λ (n : ℕ). Some n) fits

abbrev pub FitsFile : FileSize → Type 0
FitsFile f = IsUtf8 f.path × (f.bytes < 2 ^ 64)

pub count_fits : (count : ℕ) → fitted count < 2 ^ 64
count_fits count = omega arith

chunks_utf8 : IsUtf8 (codes "chunks/")
chunks_utf8 = search rules

index_utf8 : IsUtf8 (codes "index")
index_utf8 = search rules

sizes_fit : (number : ℕ) (segments : List (List ℕ)) → All FitsFile (sizes_from number segments)
unfolding sizes_from
sizes_fit number [] = All-nil FitsFile
sizes_fit number (segment ∷ segments) =
    All-cons FitsFile (segment_size number segment) (sizes_from (number + 1) segments)
    (IsUtf8-append (codes "chunks/") (six_digits number) chunks_utf8 (IsUtf8-six_digits number), count_fits (length segment)) (sizes_fit (number + 1) segments)

pub all_fit : (segments : List (List ℕ)) (index : List ℕ) → All FitsFile (sizes_of segments index)
unfolding sizes_of
all_fit segments index =
    All-append FitsFile (sizes_from 1 segments) (index_size index ∷ []) (sizes_fit 1 segments)
    (All-cons FitsFile (index_size index) [] (index_utf8, count_fits (length index)) (All-nil FitsFile))

pub names_fit : (number count : ℕ) → All IsUtf8 (names_from number count)
unfolding names_from
names_fit number zero = All-nil IsUtf8
names_fit number (suc count) = All-cons IsUtf8 (six_digits number) (names_from (number + 1) count) (IsUtf8-six_digits number) (names_fit (number + 1) count)

-- ---- its meta

pub samples_fit : (series : List Series) → sample_count series < 2 ^ 64
unfolding sample_count
samples_fit series = omega arith

module _ (block : Block) (low high : ℤ) (series : List Series) (objects : List Object) (is : IsInlineBlock block low high series objects) where
  -- what the meta says
  meta_is : fields_of is.files.meta ≡ meta_with (plan_fields is.plan) (counts_of is.built.put) is.files.index is.files.segments
  meta_is = is.built.block_is.meta ∙ ap (λ (p : PlanFields). meta_with p (counts_of is.built.put) is.files.index is.files.segments) is.built.put_is.plan_is

  meta_ulid : is.files.meta.ulid ≡ block.ulid
  unfolding meta_with
  meta_ulid = ap (λ (m : MetaFields). m.ulid) meta_is ∙ is.planned.ulid

  meta_sources : is.files.meta.sources ≡ block.ulid ∷ []
  unfolding meta_with
  meta_sources = ap (λ (m : MetaFields). m.sources) meta_is ∙ is.planned.sources

  meta_labels : is.files.meta.labels ≡ block.labels
  unfolding meta_with
  meta_labels = ap (λ (m : MetaFields). m.labels) meta_is ∙ is.planned.labels

  meta_whole : is.files.meta.resolution ≡ pos 0
  unfolding meta_with
  meta_whole = ap (λ (m : MetaFields). m.resolution) meta_is

  meta_times : (is.files.meta.min_time ≡ low) × (is.files.meta.max_time ≡ high)
  unfolding meta_with
  meta_times = (ap (λ (m : MetaFields). m.min_time) meta_is ∙ is.planned.early, ap (λ (m : MetaFields). m.max_time) meta_is ∙ is.planned.late)

  meta_sized : IfSome (told_size is.files.meta.files) (λ size. size ≡ length is.files.index)
  unfolding meta_with
  meta_sized =
      let told : told_size is.files.meta.files ≡ Some (length is.files.index) =
      ap (λ (m : MetaFields). told_size m.files) meta_is ∙ index_told is.files.segments is.files.index is.built.block_is.small in
      subst (λ o. IfSome o (λ size. size ≡ length is.files.index)) (sym told) refl

  module _ (small : block.ulid < 2 ^ 128) (lawful : IsLabelSet block.labels) (named : AreNamed block.labels) (values : All (λ (l : Label). IsUtf8 l.value) block.labels) where
    meta_fits : IsReadAgain (meta_with (plan_fields is.plan) (counts_of is.built.put) is.files.index is.files.segments)
    unfolding meta_with
    meta_fits = record {
      ulid = subst (λ u. u < 2 ^ 128) (sym is.planned.ulid) small;
      times = is.plan.times;
      series = count_fits _;
      samples = subst (λ n. n < 2 ^ 64) (sym is.built.put_is.samples_are) (samples_fit series);
      chunks = count_fits _;
      level = subst (λ n. n < 2 ^ 32) (sym is.planned.level) (omega arith);
      sources = subst (All (λ u. u < 2 ^ 128)) (sym is.planned.sources) (All-cons (λ u. u < 2 ^ 128) block.ulid [] small (All-nil (λ u. u < 2 ^ 128)));
      distinct = is.plan.distinct;
      parents = subst (AllByRecursion FitsParent) (sym is.planned.parents) tt;
      lawful = subst IsLabelSet (sym is.planned.labels) lawful;
      named = subst AreNamed (sym is.planned.labels) named;
      values = subst (All (λ (l : Label). IsUtf8 l.value)) (sym is.planned.labels) values;
      resolution = refl;
      source = subst IsUtf8 (sym is.planned.source) (search rules);
      files = all_fit is.files.segments is.files.index;
      segment_files = names_fit 1 (length is.files.segments);
    }

    meta_again : meta_of_text (meta_text (fields_of is.files.meta)) ≡ Ok (fields_of is.files.meta)
    meta_again =
        ap (λ (m : MetaFields). meta_of_text (meta_text m)) meta_is
        ∙ meta_read_again (meta_with (plan_fields is.plan) (counts_of is.built.put) is.files.index is.files.segments) meta_fits ∙ ap (λ (m : MetaFields). Ok m) (sym meta_is)

  -- ---- its segments

  segments_short : AllByRecursion (λ (segment : List ℕ). length segment ≤ greatest) is.files.segments
  segments_short =
      let own = is.built.block_is.files.segments_are in
      subst (AllByRecursion (λ (segment : List ℕ). length segment ≤ greatest)) (sym own.segments_are)
      (AllByRecursion-map (λ run. length (segment_text run) ≤ greatest) (λ (segment : List ℕ). length segment ≤ greatest) segment_text (λ run fits. fits) own.runs own.runs_are.fit)

-- ---- the whole

pub whole_inline : (setting : Setting) (block : Block) (low high : ℤ) (series : List Series) (objects : List Object) → block.body ≡ Inline low high series → block.ulid < 2 ^ 128 → IsLabelSet block.labels → AreNamed block.labels
    → All (λ (l : Label). IsUtf8 l.value) block.labels → IsInlineBlock block low high series objects → IsWholeBlock setting block objects
whole_inline setting block low high series objects body small lawful named values is =
    let content : IsContent is.files series = built_holds is.plan series is.files is.built in
    record {
      segments = is.files.segments;
      index = is.files.index;
      meta = fields_of is.files.meta;
      are = is.are;
      read = meta_again block low high series objects is small lawful named values;
      own = meta_ulid block low high series objects is;
      sources = meta_sources block low high series objects is;
      labels = meta_labels block low high series objects is;
      whole = meta_whole block low high series objects is;
      times = subst (λ b. Spans setting block.ulid b is.files.meta.min_time is.files.meta.max_time) (sym body) (meta_times block low high series objects is);
      sized = meta_sized block low high series objects is;
      bytes = (is.bytes.index, is.bytes.segments);
      few = is.files.numbered;
      short = segments_short block low high series objects is;
      indexed = content.indexed;
      index_is = content.index_is;
      apart = content.apart;
      series_are = subst (λ b. AllZip (HoldsSeries is.files.segments) content.indexed (given_by setting block.ulid b)) (sym body) content.series_are;
      within = subst (λ b. AllByRecursion (AreWithin is.files.meta) (given_by setting block.ulid b)) (sym body) content.within;
    }
