-- How much an index names: the data of chunks and the texts of labels, each counted as often as it is named.
use Rattle.std.specs.Prelude.{ℕ, ◌+◌, ◌*◌, ◌≤◌, ◌-◌, ◌^◌, min, nat_le, sum_by, List, length, Bool, ◌&&◌}
use Rattle.label_sets.specs.declared.label.Label.{Label}
use Rattle.index_parts.specs.declared.index_series.IndexSeries.{IndexSeries}
use Rattle.index_parts.specs.IndexFile.{IsIndex}
use Rattle.index_v2.specs.LentLabels.{as_label}
use Rattle.index_v2.specs.declared.lent_series.LentLabel.{LentLabel}
use Rattle.block_meta.specs.declared.block_files.BlockFiles.{BlockFiles}
use Rattle.block_content.specs.ContentReading.{series_bytes}

-- a count, up to the greatest number of 64 bits
abbrev pub counted : ℕ → ℕ
counted number = min number (2 ^ 64 - 1)

-- how many bytes the texts of a label have
abbrev pub label_bytes : Label → ℕ
label_bytes label = length label.name + length label.value

-- the same of a label that lends its texts
abbrev pub lent_bytes : LentLabel → ℕ
lent_bytes label = label_bytes (as_label label)

-- and those of all labels of a series
abbrev pub text_bytes : IndexSeries → ℕ
text_bytes indexed = sum_by label_bytes indexed.labels

-- how many bytes of chunks may be named for each byte of the segments, and of texts for each byte of the index
abbrev pub chunk_share : ℕ
chunk_share = 8

abbrev pub text_share : ℕ
text_share = 64

-- whether an index of these series names little for the block's bytes
abbrev pub names_few : List ℕ → List (List ℕ) → List IndexSeries → Bool
names_few index segments indexed =
    nat_le (counted (sum_by (series_bytes segments) indexed)) (counted (chunk_share * sum_by length segments)) && nat_le (counted (sum_by text_bytes indexed)) (counted (text_share * length index))

-- What the index names is little for the block's bytes: chunks for those of its segments, texts for those of the index itself.
pub record NamesFew (files : BlockFiles) : Type 0 where
  pub indexed : List IndexSeries
  pub index_is : IsIndex files.index indexed
  pub chunks : counted (sum_by (series_bytes files.segments) indexed) ≤ counted (chunk_share * sum_by length files.segments)
  pub texts : counted (sum_by text_bytes indexed) ≤ counted (text_share * length files.index)
