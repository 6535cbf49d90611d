use Rattle.std.proofs.Common.{◌≡◌, take, Ok}
use Rattle.index_v2.specs.SeriesLabels.{numbered_at}
use Rattle.base.specs.Firsts.{each_at}
use Rattle.store_ranges.proofs.series_reads.series_of_whole.Given as goal

abbrev pub invariant-loop-number : goal.invariant-loop-number
invariant-loop-number l = each_at (numbered_at l.index.bytes l.index.symbols) (take l.number-index l.numbers) ≡ Ok l.all.items
