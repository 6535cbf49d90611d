use Rattle.std.proofs.Common.{ℕ, ◌-◌, ◌≤◌, List, length}
use Rattle.index_parts.specs.declared.postings_row.PostingsRow.{PostingsRow}
use Rattle.index_parts.proofs.RowPlaces.{IsBetween}
use Rattle.index_v2.specs.Ranks.{CompareAlike}
use Rattle.index_v2.proofs.ranks.place_of.Given as goal

abbrev pub invariant-loop-low : goal.invariant-loop-low
invariant-loop-low l = ((rows : List PostingsRow) (name value : List ℕ) → CompareAlike rows l.ranks name value l.sought → IsBetween rows name value l.low l.high) × (l.high ≤ length l.ranks)

abbrev pub decreases-loop-low : goal.decreases-loop-low
decreases-loop-low l = l.high - l.low
