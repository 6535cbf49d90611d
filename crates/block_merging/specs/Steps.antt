-- What a writer holds on the way to a merged series.
use Rattle.std.specs.Prelude.{◌≡◌, ◌+◌, List, [], ◌∷◌, ◌++◌, length, map, ℤ, ◌<ℤ◌}
use Rattle.std.specs.List.{AllByRecursion, AllZip}
use Rattle.label_sets.specs.declared.label.Label.{Label}
use Rattle.label_sets.specs.declared.sample.Sample.{Sample}
use Rattle.base.specs.Ordered.{in_order}
use Rattle.base.specs.Lists.{joined}
use Rattle.block_writing.specs.Put.{PutChunk, Put, IsAfterChunks, fitted}
use Rattle.block_writing.specs.Built.{StandsFor}
use Rattle.block_merging.specs.declared.placed_chunk.PlacedChunk.{PlacedChunk}
use Rattle.block_merging.specs.Placed.{placed_chunk, stands_before}
use Rattle.block_merging.specs.Runs.{AreConnected, AreRuns}
use Rattle.block_merging.specs.MergedSeries.{Becomes}

-- chunks in the order in which they were given
abbrev pub run_in : List PlacedChunk → List PutChunk
run_in run = map placed_chunk (in_order stands_before run)

-- the chunk's data stands for samples
abbrev pub IsReadable : PutChunk → Type 0
IsReadable chunk = (samples : List Sample) × StandsFor chunk samples

-- what becomes of a run was put
pub record HasRun (old : Put) (labels : List Label) (run : List PutChunk) (new : Put) : Type 0 where
  pub made : List PutChunk
  pub becomes : Becomes labels run made
  pub parts : List (List Sample)
  pub read : AllZip StandsFor made parts
  pub plan_is : new.plan ≡ old.plan
  pub series_are : new.series ≡ old.series
  pub chunks_are : new.chunks ≡ old.chunks ++ made
  pub samples_are : new.samples ≡ fitted (old.samples + length (joined parts))
  pub behind : (time : ℤ) → AllByRecursion (λ c. c.max <ℤ time) run → IsAfterChunks new.chunks time

-- what becomes of all runs was put
pub record HasRuns (old : Put) (labels : List Label) (chunks : List PutChunk) (new : Put) : Type 0 where
  pub runs : List (List PutChunk)
  pub runs_are : AreRuns chunks runs
  pub made : List (List PutChunk)
  pub each : AllZip (Becomes labels) runs made
  pub parts : List (List Sample)
  pub read : AllZip StandsFor (joined made) parts
  pub plan_is : new.plan ≡ old.plan
  pub series_are : new.series ≡ old.series
  pub chunks_are : new.chunks ≡ joined made
  pub samples_are : new.samples ≡ fitted (old.samples + length (joined parts))

-- each of the one ends before each of the other begins
abbrev pub EndBefore : List PutChunk → List PutChunk → Type 0
EndBefore xs ys = AllByRecursion (λ x. AllByRecursion (λ (y : PutChunk). x.max <ℤ y.min) ys) xs

-- Each part's run is connected, and each part ends before those behind it, and what is left, begin.
abbrev pub AreSwept : List (List PlacedChunk) → List PlacedChunk → Type 0
AreSwept [] left = Unit {0}
AreSwept (part ∷ parts) left = AreConnected (run_in part) × EndBefore (map placed_chunk part) (map placed_chunk (joined parts ++ left)) × AreSwept parts left

-- what becomes of the runs of chunks in the order of their begins was put
pub record HasSwept (old : Put) (labels : List Label) (sorted : List PlacedChunk) (new : Put) : Type 0 where
  pub swept : List (List PlacedChunk)
  pub whole : joined swept ≡ sorted
  pub apart : AreSwept swept []
  pub made : List (List PutChunk)
  pub each : AllZip (Becomes labels) (map run_in swept) made
  pub parts : List (List Sample)
  pub read : AllZip StandsFor (joined made) parts
  pub plan_is : new.plan ≡ old.plan
  pub series_are : new.series ≡ old.series
  pub chunks_are : new.chunks ≡ joined made
  pub samples_are : new.samples ≡ fitted (old.samples + length (joined parts))
