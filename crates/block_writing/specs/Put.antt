-- What is put into a block that is being written: its plan, series, and of each series chunks.
use Rattle.std.specs.Prelude.{◌≢◌, ◌≡◌, ℕ, ◌+◌, ◌-◌, ◌^◌, min, List, [], ◌∷◌, ◌++◌, length, map, slice_get, Option, None, Some, ℤ, ◌<ℤ◌}
use Rattle.std.specs.List.{flat_map, AllByRecursion}
use Rattle.std.specs.List.Sorted.{IsStrictlySortedBy}
use Rattle.std.specs.declared.cmp.Ordering.TheVariants.{Less}
use Rattle.label_sets.specs.Labels.{compare_sets}
use Rattle.label_sets.specs.declared.label.Label.{Label}
use Rattle.label_sets.specs.declared.sample.Sample.{Sample}
use Rattle.label_sets.specs.Times.{IsWithin, times_of}
use Rattle.block_meta.specs.declared.parent.Parent.{Parent}
use Rattle.xor_chunks.specs.Grammar.{IsText}
use Rattle.xor_chunks.specs.Widths.{stored_filling}
use Rattle.index_parts.specs.Turns.{InOrder}

-- a chunk: its data, and the times of its first and its last sample
pub record PutChunk : Type 0 where
  pub content : List ℕ
  pub min : ℤ
  pub max : ℤ

pub record PutSeries : Type 0 where
  pub labels : List Label
  pub chunks : List PutChunk

-- what a block will say of itself
pub record PlanFields : Type 0 where
  pub ulid : ℕ
  pub min_time : ℤ
  pub max_time : ℤ
  pub level : ℕ
  pub sources : List ℕ
  pub parents : List Parent
  pub labels : List Label
  pub source : List ℕ

-- What was put so far: the series that are ended, the chunks of the one that is not, and how many samples all chunks have.
pub record Put : Type 0 where
  pub plan : PlanFields
  pub series : List PutSeries
  pub chunks : List PutChunk
  pub samples : ℕ

-- ---- what may be put

-- The data stand for samples, as a block stores them. The first is at the chunk's one time, the last at the other, and all
-- lie within the block's times, of which the last is not its own.
pub record IsStored (plan : PlanFields) (chunk : PutChunk) : Type 0 where
  pub samples : List Sample
  pub text_is : IsText stored_filling chunk.content samples
  pub begins : slice_get (times_of samples) 0 ≡ Some chunk.min
  pub ends : slice_get (times_of samples) (length samples - 1) ≡ Some chunk.max
  pub within : AllByRecursion (IsWithin plan.min_time plan.max_time) samples

-- The time comes after the chunk ends, if there is one.
abbrev pub IsAfter : Option PutChunk → ℤ → Type 0
IsAfter None time = Unit {0}
IsAfter (Some chunk) time = chunk.max <ℤ time

-- It comes after the last of these chunks.
abbrev pub IsAfterChunks : List PutChunk → ℤ → Type 0
IsAfterChunks chunks time = IsAfter (slice_get chunks (length chunks - 1)) time

-- Each chunk begins after the one before it ends.
abbrev pub AreApart : List PutChunk → Type 0
AreApart chunks = InOrder (λ before chunk. IsAfter before chunk.min) chunks

-- The labels are greater than those of the last series, if there is one.
abbrev pub IsAfterSeries : List PutSeries → List Label → Type 0
IsAfterSeries series labels = (last : PutSeries) → slice_get series (length series - 1) ≡ Some last → compare_sets last.labels labels ≡ Less

-- ---- what holds of all that was put

-- chunks of one series
pub record AreOfSeries (plan : PlanFields) (chunks : List PutChunk) : Type 0 where
  pub stored : AllByRecursion (IsStored plan) chunks
  pub apart : AreApart chunks

-- a series that is ended has a chunk
pub record IsEnded (plan : PlanFields) (series : PutSeries) : Type 0 where
  pub some : series.chunks ≢ []
  pub chunks : AreOfSeries plan series.chunks

-- The series ascend by their labels; each has chunks, and these lie apart and stand for samples within the block's times.
pub record IsPut (put : Put) : Type 0 where
  pub series : AllByRecursion (IsEnded put.plan) put.series
  pub ascend : IsStrictlySortedBy compare_sets (map (λ s. s.labels) put.series)
  pub chunks : AreOfSeries put.plan put.chunks

-- ---- what a call puts

-- a count, as it fits a number of a meta
abbrev pub fitted : ℕ → ℕ
fitted count = min count (2 ^ 64 - 1)

abbrev pub nothing_put : PlanFields → Put
nothing_put plan = record { plan = plan; series = []; chunks = []; samples = 0 }

-- with a chunk of so many samples more
abbrev pub with_chunk : Put → PutChunk → ℕ → Put
with_chunk put chunk count = record { plan = put.plan; series = put.series; chunks = put.chunks ++ chunk ∷ []; samples = fitted (put.samples + count) }

-- with the chunks as a series
abbrev pub with_series : Put → List Label → Put
with_series put labels = record { plan = put.plan; series = put.series ++ record { labels = labels; chunks = put.chunks } ∷ []; chunks = []; samples = put.samples }

-- the data of all chunks of series
abbrev pub contents_of : List PutSeries → List (List ℕ)
contents_of series = flat_map (λ s. map (λ c. c.content) s.chunks) series
