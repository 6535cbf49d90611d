-- What becomes of the chunks of one series: those that share times are merged, and one that shares none is carried as it is.
use Rattle.std.specs.Prelude.{◌≡◌, ◌+◌, List, [], ◌∷◌, ◌++◌, length}
use Rattle.std.specs.List.{flat_map, AllZip}
use Rattle.label_sets.specs.declared.label.Label.{Label}
use Rattle.label_sets.specs.declared.series.Series.{Series}
use Rattle.label_sets.specs.Triples.{triples_under}
use Rattle.vertical_merge.specs.Merged.{IsMerge}
use Rattle.block_writing.specs.Put.{PutChunk, PutSeries, Put, fitted}
use Rattle.block_writing.specs.Built.{IsPutAs}
use Rattle.block_merging.specs.PutContent.{IsSeriesOf}
use Rattle.block_merging.specs.Runs.{AreRuns}

-- The samples for which the chunks stand, one chunk after another, are merged, and put part by part as chunks.
pub record AreMerged (labels : List Label) (run made : List PutChunk) : Type 0 where
  pub given : Series
  pub given_is : IsSeriesOf (record { labels = labels; chunks = run }) given
  pub kept : Series
  pub kept_is : IsMerge (triples_under labels given.samples) (kept ∷ [])
  pub made_is : IsPutAs kept (record { labels = labels; chunks = made })

-- A chunk that meets no other is carried; the chunks of a longer run are merged.
abbrev pub Becomes : List Label → List PutChunk → List PutChunk → Type 0
Becomes labels [] made = made ≡ []
Becomes labels (chunk ∷ []) made = made ≡ chunk ∷ []
Becomes labels (chunk ∷ other ∷ run) made = AreMerged labels (chunk ∷ other ∷ run) made

-- A series has these labels, and as chunks what becomes of the runs of the given ones, one run after another.
pub record IsMergedSeries (labels : List Label) (chunks : List PutChunk) (put : PutSeries) : Type 0 where
  pub runs : List (List PutChunk)
  pub runs_are : AreRuns chunks runs
  pub made : List (List PutChunk)
  pub each : AllZip (Becomes labels) runs made
  pub labels_are : put.labels ≡ labels
  pub chunks_are : put.chunks ≡ flat_map (λ part. part) made

-- what a writer holds once the merge of a series' chunks was put
pub record HasMerged (old : Put) (labels : List Label) (chunks : List PutChunk) (new : Put) : Type 0 where
  pub put : PutSeries
  pub put_is : IsMergedSeries labels chunks put
  pub series : Series
  pub series_is : IsSeriesOf put series
  pub plan_is : new.plan ≡ old.plan
  pub series_are : new.series ≡ old.series ++ put ∷ []
  pub nothing_left : new.chunks ≡ []
  pub samples_are : new.samples ≡ fitted (old.samples + length series.samples)
