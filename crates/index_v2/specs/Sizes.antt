-- How much a series of an index has, and how much it takes.
use Rattle.std.specs.Prelude.{ℕ, ◌+◌, ◌*◌, List, length}
use Rattle.wire_bytes.specs.Fields.{uvarint_at}
use Rattle.index_parts.specs.Placed.{at_place}
use Rattle.index_parts.specs.Parts.{told}
use Rattle.index_parts.specs.declared.index_series.IndexSeries.{IndexSeries}
use Rattle.index_parts.specs.IndexFile.{series_unit}

-- a series' labels and chunks
abbrev pub members_of : IndexSeries → ℕ
members_of series = length series.labels + length series.chunks

-- how many bytes the content of the series of a number is said to take
abbrev pub series_bytes : List ℕ → ℕ → ℕ
series_bytes index number = told (uvarint_at (at_place index (series_unit * number)))
