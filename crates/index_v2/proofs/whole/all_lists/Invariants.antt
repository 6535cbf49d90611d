use Rattle.std.proofs.Common.{ℕ, List, zip}
use Rattle.index_parts.specs.declared.index_series.IndexSeries.{IndexSeries}
use Rattle.index_parts.specs.Parts.{part_of}
use Rattle.index_v2.specs.Ranks.{AreRanked, AreRowRanks}
use Rattle.index_v2.proofs.KeptLists.{KeptSoFar}
use Rattle.index_v2.proofs.whole.all_lists.Given as goal

abbrev pub invariant-loop-place : goal.invariant-loop-place
invariant-loop-place l = (symbols : List (List ℕ)) (listed : List IndexSeries) → AreRowRanks symbols l.rows l.ranks → AreRanked symbols listed l.series → KeptSoFar (part_of l.part) l.rows (zip l.numbers listed) l.place l.lists.items l.stray
