use Rattle.std.proofs.Common.{take, Some}
use Rattle.index_parts.specs.Parts.{known}
use Rattle.index_v2.specs.SeriesLabels.{numbered_at}
use Rattle.base.specs.Firsts.{each_at}
use Rattle.store_ranges.specs.IndexReads.{part_at}
use Rattle.store_ranges.specs.Asking.{piece_of}
use Rattle.store_ranges.specs.Findings.{ReadsBehind}
use Rattle.store_ranges.proofs.series_reads.series_of_numbers.Given as goal

abbrev pub invariant-loop-number : goal.invariant-loop-number
invariant-loop-number l = ReadsBehind (λ xs. xs) l.initial.all.items (each_at (numbered_at (known (part_at (piece_of l.run.range) l.bytes)) l.symbols) (take l.number-index l.numbers)) (Some l.all.items)
