use Rattle.std.specs.Prelude.{◌≡◌, ◌<◌, ◌-◌, ℕ, length, slice_get, slice_index_or, Some}
use Rattle.querier.specs.declared.answer.Answer.{Answer}
use Rattle.querier.proofs.alike.all_have_at.Given as goal

abbrev pub invariant-loop-start : goal.invariant-loop-start
invariant-loop-start l = (k : ℕ) (d : Answer) → k < l.start → k < length l.fn.answers → slice_get (slice_index_or l.fn.answers k d).series l.fn.place ≡ Some l.fn.series

abbrev pub decreases-loop-start : goal.decreases-loop-start
decreases-loop-start l = length l.answers - l.start
