-- The series for which chunk data stand that were put into a block.
use Rattle.std.specs.Prelude.{◌≡◌, List, [], ◌∷◌}
use Rattle.std.specs.List.{flat_map, AllByRecursion, AllZip}
use Rattle.base.specs.Grammar.{IsBytes}
use Rattle.label_sets.specs.declared.sample.Sample.{Sample}
use Rattle.label_sets.specs.declared.series.Series.{Series}
use Rattle.xor_chunks.specs.Grammar.{IsText}
use Rattle.xor_chunks.specs.Widths.{stored_filling}
use Rattle.block_meta.specs.declared.block_files.BlockFiles.{BlockFiles}
use Rattle.block_writing.specs.Put.{PutSeries, PlanFields}

-- A series has the labels of one that was put, and the samples for which that one's chunks stand, one after another.
pub record IsSeriesOf (put : PutSeries) (series : Series) : Type 0 where
  pub parts : List (List Sample)
  pub chunks_are : AllZip (λ chunk part. IsText stored_filling chunk.content part) put.chunks parts
  pub labels_are : series.labels ≡ put.labels
  pub samples_are : series.samples ≡ flat_map (λ part. part) parts

abbrev pub AreSeriesOf : List PutSeries → List Series → Type 0
AreSeriesOf puts list = AllZip IsSeriesOf puts list

-- Index and segments are bytes, as those of all files are.
pub record AreBytes (files : BlockFiles) : Type 0 where
  pub index : IsBytes files.index
  pub segments : AllByRecursion IsBytes files.segments

-- The block was compacted of no other.
pub record IsFirstLevel (plan : PlanFields) : Type 0 where
  pub level : plan.level ≡ 1
  pub source : plan.sources ≡ plan.ulid ∷ []
