use Rattle.std.proofs.Common.{arith}
use Rattle.index_v2.proofs.SeriesApart.{no_entry}
use Rattle.index_v2.proofs.sizes.series_bytes.Goals as goal

pub returns-then-at-index : goal.returns-then-at-index
returns-then-at-index c = no_entry _ _ (omega arith)
