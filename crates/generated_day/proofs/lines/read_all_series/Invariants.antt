use Rattle.std.specs.List.{flat_map, range_with_len}
use Rattle.generated_day.specs.Day.{series_line}
use Rattle.generated_day.proofs.Parts.{ReadParts}
use Rattle.generated_day.proofs.lines.read_all_series.Given as goal

-- what was read is what stands before what is left
abbrev pub invariant-loop-series : goal.invariant-loop-series
invariant-loop-series l =
    ReadParts (series_line l.number l.block l.replica) l.fn.reader l.reader (flat_map (series_line l.number l.block l.replica) (range_with_len 0 100)) l.series 100
