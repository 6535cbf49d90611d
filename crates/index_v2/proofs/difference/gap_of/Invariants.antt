use Rattle.std.proofs.Common.{ℕ, List}
use Rattle.label_sets.specs.declared.label.Label.{Label}
use Rattle.index_parts.specs.declared.postings_row.PostingsRow.{PostingsRow}
use Rattle.index_v2.specs.Ranks.{AreLabelRanks, AreRowRanks}
use Rattle.index_v2.proofs.Differences.{GapsSoFar}
use Rattle.index_v2.proofs.difference.gap_of.Given as goal

abbrev pub invariant-loop-label : goal.invariant-loop-label
invariant-loop-label l = (symbols : List (List ℕ)) (told : List PostingsRow) (all : List Label) → AreRowRanks symbols told l.rows → AreLabelRanks symbols all l.labels → GapsSoFar told l.lists l.number all l.label-index l.least
