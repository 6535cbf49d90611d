-- The files of what was put hold the series for which it stands, and no others.
use Rattle.std.proofs.Common.{◌≡◌, ℕ, List, [], ◌∷◌, Some, refl, sym, ap, subst, ◌∙◌, ℤ}
use Rattle.std.specs.Prelude.{◌≤ℤ◌, ◌<ℤ◌}
use Rattle.std.specs.List.{flat_map, AllByRecursion, AllZip}
use Rattle.base.proofs.Lists.{AllByRecursion-append, AllByRecursion-weaker}
use Rattle.base.proofs.Binds.{ok_is}
use Rattle.label_sets.specs.declared.sample.Sample.{Sample}
use Rattle.label_sets.specs.declared.series.Series.{Series}
use Rattle.label_sets.specs.Times.{IsWithin}
use Rattle.block_meta.specs.declared.block_plan.BlockPlan.{BlockPlan}
use Rattle.block_meta.specs.MetaFields.{MetaFields}
use Rattle.xor_chunks.specs.Grammar.{IsText}
use Rattle.xor_chunks.proofs.TextsRead.{data_again}
use Rattle.xor_chunks.specs.declared.refusal.XorRefusal.{XorRefusal}
use Rattle.index_parts.specs.declared.chunk_place.ChunkPlace.{ChunkPlace}
use Rattle.index_parts.specs.declared.index_series.IndexSeries.{IndexSeries}
use Rattle.block_meta.specs.declared.block_files.BlockFiles.{BlockFiles}
use Rattle.block_writing.specs.Put.{PutChunk, PutSeries, PlanFields, Put, IsStored, IsEnded, IsPut}
use Rattle.block_writing.specs.WrittenMeta.{meta_with, IsWritten}
use Rattle.block_writing.specs.Built.{IsPutAs, IsBuilt, StandsFor}
use Rattle.block_writing.proofs.Parts.{texts_of}
use Rattle.block_content.specs.Content.{HaveTimesOf, IsChunkOf, HoldsSeries, IsApart, AreWithin, IsContent}
use Rattle.block_content.specs.declared.check_refusal.CheckRefusal.{CheckRefusal}
use Rattle.block_content.proofs.ContentLaws.{content_again}
use Rattle.block_merging.specs.PutContent.{IsSeriesOf, AreSeriesOf, AreBytes}
use Rattle.block_merging.proofs.Standing.{IsAt, IsPlaced, all_placed, are_apart}

-- ---- a chunk

pub text_once : (bytes : List ℕ) (samples others : List Sample) → IsText 8 bytes samples → IsText 8 bytes others → samples ≡ others
text_once bytes samples others is too = ok_is {E = XorRefusal} samples others (sym (data_again 8 bytes samples is) ∙ data_again 8 bytes others too)

chunk_times : (plan : PlanFields) (segments : List (List ℕ)) (chunk : PutChunk) (place : ChunkPlace) (stored : IsStored plan chunk) → IsAt segments chunk place → HaveTimesOf place stored.samples
chunk_times plan segments chunk place stored is = record {
  begins = stored.begins ∙ ap Some (sym (ap (λ (t : ℤ × ℤ). t.0) is.times));
  ends = stored.ends ∙ ap Some (sym (ap (λ (t : ℤ × ℤ). t.1) is.times));
}

chunk_held : (plan : PlanFields) (segments : List (List ℕ)) (chunk : PutChunk) (place : ChunkPlace) (part : List Sample) → IsStored plan chunk → IsAt segments chunk place → IsText 8 chunk.content part → IsChunkOf segments place part
chunk_held plan segments chunk place part stored is text =
    let same : stored.samples ≡ part = text_once chunk.content stored.samples part stored.text_is text in
    record { content = chunk.content; stands = is.stands; reads = text; timed = subst (HaveTimesOf place) same (chunk_times plan segments chunk place stored is) }

part_within : (plan : PlanFields) (chunk : PutChunk) (part : List Sample) → IsStored plan chunk → IsText 8 chunk.content part → AllByRecursion (IsWithin plan.min_time plan.max_time) part
part_within plan chunk part stored text = subst (AllByRecursion (IsWithin plan.min_time plan.max_time)) (text_once chunk.content stored.samples part stored.text_is text) stored.within

-- ---- a series

chunks_held : (plan : PlanFields) (segments : List (List ℕ)) (chunks : List PutChunk) (places : List ChunkPlace) (parts : List (List Sample)) → AllByRecursion (IsStored plan) chunks → AllZip (IsAt segments) chunks places → AllZip StandsFor chunks parts → AllZip (IsChunkOf segments) places parts
chunks_held plan segments [] [] [] stored each texts = tt
chunks_held plan segments [] (p ∷ places) parts stored each texts = absurd each
chunks_held plan segments [] [] (x ∷ parts) stored each texts = absurd texts
chunks_held plan segments (c ∷ chunks) [] parts stored each texts = absurd each
chunks_held plan segments (c ∷ chunks) (p ∷ places) [] stored each texts = absurd texts
chunks_held plan segments (c ∷ chunks) (p ∷ places) (x ∷ parts) stored each texts = (chunk_held plan segments c p x stored.0 each.0 texts.0, chunks_held plan segments chunks places parts stored.1 each.1 texts.1)

samples_within : (plan : PlanFields) (chunks : List PutChunk) (parts : List (List Sample)) → AllByRecursion (IsStored plan) chunks → AllZip StandsFor chunks parts → AllByRecursion (IsWithin plan.min_time plan.max_time) (flat_map (λ part. part) parts)
samples_within plan [] [] stored texts = tt
samples_within plan [] (x ∷ parts) stored texts = absurd texts
samples_within plan (c ∷ chunks) [] stored texts = absurd texts
samples_within plan (c ∷ chunks) (x ∷ parts) stored texts = AllByRecursion-append (IsWithin plan.min_time plan.max_time) x (flat_map (λ part. part) parts) (part_within plan c x stored.0 texts.0) (samples_within plan chunks parts stored.1 texts.1)

series_held : (plan : PlanFields) (segments : List (List ℕ)) (put : PutSeries) (indexed : IndexSeries) (series : Series) → IsEnded plan put → IsPlaced segments put indexed → IsSeriesOf put series → HoldsSeries segments indexed series
series_held plan segments put indexed series ended placed is = record {
  parts = is.parts;
  chunks_are = chunks_held plan segments put.chunks indexed.chunks is.parts ended.chunks.stored placed.chunks_are is.chunks_are;
  labels_are = is.labels_are ∙ sym placed.labels_are;
  samples_are = is.samples_are;
}

series_within : (plan : PlanFields) (put : PutSeries) (series : Series) → IsEnded plan put → IsSeriesOf put series → AllByRecursion (IsWithin plan.min_time plan.max_time) series.samples
series_within plan put series ended is = subst (AllByRecursion (IsWithin plan.min_time plan.max_time)) (sym is.samples_are) (samples_within plan put.chunks is.parts ended.chunks.stored is.chunks_are)

-- ---- all series

all_held : (plan : PlanFields) (segments : List (List ℕ)) (puts : List PutSeries) (indexed : List IndexSeries) (list : List Series) → AllByRecursion (IsEnded plan) puts → AllZip (IsPlaced segments) puts indexed → AreSeriesOf puts list → AllZip (HoldsSeries segments) indexed list
all_held plan segments [] [] [] ended each are = tt
all_held plan segments [] (i ∷ indexed) list ended each are = absurd each
all_held plan segments [] [] (s ∷ list) ended each are = absurd are
all_held plan segments (p ∷ puts) [] list ended each are = absurd each
all_held plan segments (p ∷ puts) (i ∷ indexed) [] ended each are = absurd are
all_held plan segments (p ∷ puts) (i ∷ indexed) (s ∷ list) ended each are = (series_held plan segments p i s ended.0 each.0 are.0, all_held plan segments puts indexed list ended.1 each.1 are.1)

all_within : (plan : PlanFields) (puts : List PutSeries) (list : List Series) → AllByRecursion (IsEnded plan) puts → AreSeriesOf puts list → AllByRecursion (λ s. AllByRecursion (IsWithin plan.min_time plan.max_time) s.samples) list
all_within plan [] [] ended are = tt
all_within plan [] (s ∷ list) ended are = absurd are
all_within plan (p ∷ puts) [] ended are = absurd are
all_within plan (p ∷ puts) (s ∷ list) ended are = (series_within plan p s ended.0 are.0, all_within plan puts list ended.1 are.1)

all_apart : (plan : PlanFields) (segments : List (List ℕ)) (puts : List PutSeries) (indexed : List IndexSeries) → AllByRecursion (IsEnded plan) puts → AllZip (IsPlaced segments) puts indexed → AllByRecursion IsApart indexed
all_apart plan segments [] [] ended each = tt
all_apart plan segments [] (i ∷ indexed) ended each = absurd each
all_apart plan segments (p ∷ puts) [] ended each = absurd each
all_apart plan segments (p ∷ puts) (i ∷ indexed) ended each = (are_apart segments p.chunks i.chunks each.0.chunks_are ended.0.chunks.apart, all_apart plan segments puts indexed ended.1 each.1)

-- ---- the block's times

pub min_is : (put : Put) (files : BlockFiles) → IsWritten put files → files.meta.min_time ≡ put.plan.min_time
unfolding meta_with
min_is put files is = ap (λ (f : MetaFields). f.min_time) is.meta

pub max_is : (put : Put) (files : BlockFiles) → IsWritten put files → files.meta.max_time ≡ put.plan.max_time
unfolding meta_with
max_is put files is = ap (λ (f : MetaFields). f.max_time) is.meta

sample_within : (put : Put) (files : BlockFiles) → IsWritten put files → (s : Sample) → IsWithin put.plan.min_time put.plan.max_time s → IsWithin files.meta.min_time files.meta.max_time s
sample_within put files is s within =
    (subst (λ (t : ℤ). t ≤ℤ s.time) (sym (min_is put files is)) within.0, subst (λ (t : ℤ). s.time <ℤ t) (sym (max_is put files is)) within.1)

-- ---- what the files hold

pub written_holds : (put : Put) (files : BlockFiles) (list : List Series) → IsWritten put files → AreSeriesOf put.series list → IsContent files list
written_holds put files list is are =
    let placed = all_placed put.series files.index files.segments is.files in
    record {
      indexed = is.files.listed;
      index_is = is.indexed;
      series_are = all_held put.plan files.segments put.series is.files.listed list is.lawful.series placed are;
      within = AllByRecursion-weaker (λ (s : Series). AllByRecursion (IsWithin put.plan.min_time put.plan.max_time) s.samples) (AreWithin files.meta)
          (λ s. AllByRecursion-weaker (IsWithin put.plan.min_time put.plan.max_time) (IsWithin files.meta.min_time files.meta.max_time) (sample_within put files is) s.samples) list (all_within put.plan put.series list is.lawful.series are);
      apart = all_apart put.plan files.segments put.series is.files.listed is.lawful.series placed;
    }

pub content_once : (files : BlockFiles) (list other : List Series) → AreBytes files → IsContent files list → IsContent files other → list ≡ other
content_once files list other bytes is too =
    ok_is {E = CheckRefusal} list other (sym (content_again files bytes.index bytes.segments list is) ∙ content_again files bytes.index bytes.segments other too)

-- ---- what was put stands for series

some_parts : (plan : PlanFields) (chunks : List PutChunk) → AllByRecursion (IsStored plan) chunks → (parts : List (List Sample)) × AllZip StandsFor chunks parts
some_parts plan [] stored = ([], tt)
some_parts plan (c ∷ chunks) stored = let others = some_parts plan chunks stored.1 in (stored.0.samples ∷ others.0, (stored.0.text_is, others.1))

some_series : (plan : PlanFields) (puts : List PutSeries) → AllByRecursion (IsEnded plan) puts → (list : List Series) × AreSeriesOf puts list
some_series plan [] ended = ([], tt)
some_series plan (p ∷ puts) ended =
    let parts = some_parts plan p.chunks ended.0.chunks.stored in
    let others = some_series plan puts ended.1 in
    let first : Series = record { labels = p.labels; samples = flat_map (λ part. part) parts.0 } in
    (first ∷ others.0, (record { parts = parts.0; chunks_are = parts.1; labels_are = refl; samples_are = refl }, others.1))

pub put_stands : (put : Put) → IsPut put → (list : List Series) × AreSeriesOf put.series list
put_stands put is = some_series put.plan put.series is.series

pub written_only : (put : Put) (files : BlockFiles) (list : List Series) → AreBytes files → IsWritten put files → IsContent files list → AreSeriesOf put.series list
written_only put files list bytes is held =
    let some = put_stands put is.lawful in
    subst (AreSeriesOf put.series) (content_once files some.0 list bytes (written_holds put files some.0 is some.1) held) some.1

-- ---- a block that is built

pub built_series : (series : List Series) (puts : List PutSeries) → AllZip IsPutAs series puts → AreSeriesOf puts series
built_series [] [] each = tt
built_series [] (p ∷ puts) each = absurd each
built_series (s ∷ series) [] each = absurd each
built_series (s ∷ series) (p ∷ puts) each =
    (record { parts = each.0.parts; chunks_are = texts_of each.0.parts p.chunks each.0.chunks; labels_are = sym each.0.labels; samples_are = sym each.0.whole }, built_series series puts each.1)

pub built_holds : (plan : BlockPlan) (series : List Series) (files : BlockFiles) → IsBuilt plan series files → IsContent files series
built_holds plan series files is = written_holds is.put files series is.block_is (built_series series is.put.series is.put_is.series_are)

pub built_only : (plan : BlockPlan) (series list : List Series) (files : BlockFiles) → AreBytes files → IsBuilt plan series files → IsContent files list → list ≡ series
built_only plan series list files bytes is held = content_once files list series bytes held (built_holds plan series files is)
