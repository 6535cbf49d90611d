-- How many members the lists of a meta have, and how large its numbers are.
use Rattle.std.specs.Prelude.{ℕ, ◌<◌, ◌≤◌, ◌^◌, FitsSigned, length}
use Rattle.std.specs.Int.{w64}
use Rattle.std.specs.List.{AllByRecursion}
use Rattle.label_sets.specs.declared.label.Label.{Label}
use Rattle.block_meta.specs.declared.file_size.FileSize.{FileSize}
use Rattle.block_meta.specs.declared.parent.Parent.{Parent}
use Rattle.block_meta.specs.MetaFields.{MetaFields}

-- neither text of a label has more bytes than this
abbrev pub HasSmallTexts : ℕ → Label → Type 0
HasSmallTexts most label = (length label.name ≤ most) × (length label.value ≤ most)

-- no list has more members than this, and no text more bytes
pub record HasFew (meta : MetaFields) (most : ℕ) : Type 0 where
  pub sources : length meta.sources ≤ most
  pub parents : length meta.parents ≤ most
  pub labels : length meta.labels ≤ most
  pub label_texts : AllByRecursion (HasSmallTexts most) meta.labels
  pub source : length meta.source ≤ most
  pub files : length meta.files ≤ most
  pub file_texts : AllByRecursion (λ (file : FileSize). length file.path ≤ most) meta.files
  pub segment_files : length meta.segment_files ≤ most
  pub segment_texts : AllByRecursion (λ text. length text ≤ most) meta.segment_files

-- The times of a parent are numbers of 64 bits.
pub record FitsParent (parent : Parent) : Type 0 where
  pub ulid : parent.ulid < 2 ^ 128
  pub early : FitsSigned w64 parent.min_time
  pub late : FitsSigned w64 parent.max_time

-- So are the counts of a meta, and the times of its parents.
pub record HasFittingNumbers (meta : MetaFields) : Type 0 where
  pub series : meta.series < 2 ^ 64
  pub samples : meta.samples < 2 ^ 64
  pub chunks : meta.chunks < 2 ^ 64
  pub parents : AllByRecursion FitsParent meta.parents
