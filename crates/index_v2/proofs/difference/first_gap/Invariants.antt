use Rattle.std.proofs.Common.{ℕ, List}
use Rattle.index_parts.specs.declared.postings_row.PostingsRow.{PostingsRow}
use Rattle.index_parts.specs.declared.index_series.IndexSeries.{IndexSeries}
use Rattle.index_v2.specs.Ranks.{AreRanked, AreRowRanks}
use Rattle.index_v2.proofs.Differences.{GapSoFar}
use Rattle.index_v2.proofs.difference.first_gap.Given as goal

abbrev pub invariant-loop-place : goal.invariant-loop-place
invariant-loop-place l = (symbols : List (List ℕ)) (told : List PostingsRow) (listed : List IndexSeries) → AreRowRanks symbols told l.rows → AreRanked symbols listed l.series → GapSoFar told l.lists l.numbers listed l.place l.least
