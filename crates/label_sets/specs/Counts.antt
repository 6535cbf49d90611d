-- How many samples series have, and how many members a label set has.
use Rattle.std.specs.Prelude.{ℕ, ◌+◌, ◌-◌, ◌^◌, min, List, length}
use Rattle.std.specs.List.{sum_by}
use Rattle.label_sets.specs.declared.label.Label.{Label}
use Rattle.label_sets.specs.declared.series.Series.{Series}

-- A count stands still at the end of 64 bits.
unfoldable pub sample_count : List Series → ℕ
sample_count series = min (sum_by (λ s. length s.samples) series) (2 ^ 64 - 1)

-- a label and the bytes of its name and of its value, counted
abbrev pub members_of : Label → ℕ
members_of label = 1 + length label.name + length label.value

-- how many members the lists of a label set have together: its labels, and the bytes of their names and values
abbrev pub members_in : List Label → ℕ
members_in labels = sum_by members_of labels
