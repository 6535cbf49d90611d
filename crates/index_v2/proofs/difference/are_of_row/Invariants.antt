use Rattle.std.proofs.Common.{◌≡◌, ℕ, List, drop, zip}
use Rattle.std.specs.List.{list_all}
use Rattle.index_parts.specs.declared.postings_row.PostingsRow.{PostingsRow}
use Rattle.index_parts.specs.declared.index_series.IndexSeries.{IndexSeries}
use Rattle.index_v2.specs.Ranks.{TellsRow, AreRanked}
use Rattle.index_v2.specs.WholeReading.{is_of_row}
use Rattle.index_v2.proofs.difference.are_of_row.Given as goal

abbrev pub invariant-loop-number : goal.invariant-loop-number
invariant-loop-number l = (symbols : List (List ℕ)) (told : PostingsRow) (listed : List IndexSeries) → TellsRow symbols told l.row → AreRanked symbols listed l.series
    → list_all (is_of_row (zip l.numbers listed) told) l.list ≡ list_all (is_of_row (zip l.numbers listed) told) (drop l.number-index l.list)
