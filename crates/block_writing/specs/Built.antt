-- What a block that is built of samples is put together from.
use Rattle.std.specs.Prelude.{◌≡◌, ◌+◌, ◌-◌, ◌<◌, ◌≤◌, List, [], ◌∷◌, ◌++◌, length, map, slice_get, Option, None, Some, ℤ, ◌<ℤ◌}
use Rattle.std.specs.Ordering.{int_cmp}
use Rattle.std.specs.List.{AllByRecursion, AllZip}
use Rattle.std.specs.List.Sorted.{IsStrictlySortedBy}
use Rattle.base.specs.Lists.{joined}
use Rattle.base.specs.Grammar.{IsBytes}
use Rattle.label_sets.specs.Counts.{sample_count}
use Rattle.label_sets.specs.Labels.{compare_sets}
use Rattle.label_sets.specs.declared.sample.Sample.{Sample}
use Rattle.label_sets.specs.declared.series.Series.{Series}
use Rattle.label_sets.specs.Times.{IsWithin, times_of}
use Rattle.wire_bytes.specs.Bits.{bits_in, filled}
use Rattle.xor_chunks.specs.Grammar.{IsText}
use Rattle.xor_chunks.specs.Written.{written, usual_count}
use Rattle.xor_chunks.specs.Widths.{stored_filling, filling}
use Rattle.block_meta.specs.declared.block_plan.BlockPlan.{BlockPlan}
use Rattle.index_parts.specs.Turns.{InOrder}
use Rattle.block_meta.specs.declared.block_files.BlockFiles.{BlockFiles}
use Rattle.block_writing.specs.Files.{HaveNoIndex}
use Rattle.block_writing.specs.Put.{PutChunk, PutSeries, PlanFields, Put, IsAfterChunks, fitted}
use Rattle.block_writing.specs.Writing.{plan_fields}
use Rattle.block_writing.specs.WrittenMeta.{IsWritten}

-- ---- which series a block is built of

-- There are samples, whose times rise and lie within the block's.
pub record AreOfBlock (plan : PlanFields) (samples : List Sample) : Type 0 where
  pub some : 0 < length samples
  pub ascend : IsStrictlySortedBy int_cmp (times_of samples)
  pub within : AllByRecursion (IsWithin plan.min_time plan.max_time) samples

-- The series ascend by their labels.
pub record AreBuildable (plan : PlanFields) (series : List Series) : Type 0 where
  pub ascend : IsStrictlySortedBy compare_sets (map (λ s. s.labels) series)
  pub samples : AllByRecursion (λ s. AreOfBlock plan s.samples) series

-- ---- the chunks of a series

-- A part has samples, no more than a chunk has as a rule, and as many where another follows.
abbrev pub IsPart : Option (List Sample) → List Sample → Type 0
IsPart None part = (0 < length part) × (length part ≤ usual_count)
IsPart (Some before) part = (length before ≡ usual_count) × (0 < length part) × (length part ≤ usual_count)

-- The chunk has the one text of the samples, and their times.
pub record IsEncoded (samples : List Sample) (chunk : PutChunk) : Type 0 where
  pub text_is : IsText filling chunk.content samples
  pub bytes : IsBytes chunk.content
  pub bits : bits_in chunk.content ≡ filled (written samples)
  pub begins : slice_get (times_of samples) 0 ≡ Some chunk.min
  pub ends : slice_get (times_of samples) (length samples - 1) ≡ Some chunk.max

-- The chunk stands for the samples of a part.
abbrev pub StandsFor : PutChunk → List Sample → Type 0
StandsFor chunk part = IsText stored_filling chunk.content part

-- The samples begin after the last chunk, if there is one.
abbrev pub BeginAfter : List PutChunk → List Sample → Type 0
BeginAfter chunks samples = (time : ℤ) → slice_get (times_of samples) 0 ≡ Some time → IsAfterChunks chunks time

-- Samples were put, part by part as chunks. What comes after all of them comes after the last of these.
pub record HasParts (old : Put) (samples : List Sample) (new : Put) : Type 0 where
  pub parts : List (List Sample)
  pub whole : joined parts ≡ samples
  pub cut : InOrder IsPart parts
  pub made : List PutChunk
  pub chunks : AllZip IsEncoded parts made
  pub plan_is : new.plan ≡ old.plan
  pub series_are : new.series ≡ old.series
  pub chunks_are : new.chunks ≡ old.chunks ++ made
  pub samples_are : new.samples ≡ fitted (old.samples + length samples)
  pub behind : (time : ℤ) → AllByRecursion (λ s. s.time <ℤ time) samples → IsAfterChunks new.chunks time

-- Samples were put up to one of them, part by part as chunks, and none of those that are left.
pub record HasFront (old : Put) (samples : List Sample) (new : Put) : Type 0 where
  pub parts : List (List Sample)
  pub left : List Sample
  pub whole : joined parts ++ left ≡ samples
  pub cut : InOrder IsPart parts
  pub made : List PutChunk
  pub chunks : AllZip IsEncoded parts made
  pub plan_is : new.plan ≡ old.plan
  pub series_are : new.series ≡ old.series
  pub chunks_are : new.chunks ≡ old.chunks ++ made
  pub samples_are : new.samples ≡ fitted (old.samples + length (joined parts))

-- A series falls into parts, each of which is a chunk.
pub record IsPutAs (series : Series) (put : PutSeries) : Type 0 where
  pub parts : List (List Sample)
  pub whole : joined parts ≡ series.samples
  pub cut : InOrder IsPart parts
  pub chunks : AllZip IsEncoded parts put.chunks
  pub labels : put.labels ≡ series.labels

-- ---- one series

-- what a writer holds once a series more was put
pub record HasMore (old : Put) (series : Series) (new : Put) : Type 0 where
  pub put : PutSeries
  pub put_is : IsPutAs series put
  pub plan_is : new.plan ≡ old.plan
  pub series_is : new.series ≡ old.series ++ put ∷ []
  pub nothing_left : new.chunks ≡ []
  pub samples_is : new.samples ≡ fitted (old.samples + length series.samples)

-- ---- the block

-- what was put of a plan and series
pub record IsPutOf (plan : PlanFields) (series : List Series) (put : Put) : Type 0 where
  pub plan_is : put.plan ≡ plan
  pub series_are : AllZip IsPutAs series put.series
  pub nothing_left : put.chunks ≡ []
  pub samples_are : put.samples ≡ sample_count series

-- The block is the one of the plan and the series.
pub record IsBuilt (plan : BlockPlan) (series : List Series) (block : BlockFiles) : Type 0 where
  pub put : Put
  pub put_is : IsPutOf (plan_fields plan) series put
  pub block_is : IsWritten put block

-- The block of the series would have an index that passes its greatest length.
pub record HaveNoBlock (plan : BlockPlan) (series : List Series) : Type 0 where
  pub put : Put
  pub put_is : IsPutOf (plan_fields plan) series put
  pub large : HaveNoIndex put.series
