use Rattle.index_v2.proofs.LabelRanks.{RanksSoFar}
use Rattle.index_v2.proofs.ranked.ranks_at.Given as goal

abbrev pub invariant-loop : goal.invariant-loop
invariant-loop l = RanksSoFar l.counter l.fn.cursor l.ranks.items l.rest
