use Rattle.std.specs.Prelude.{◌≡◌, ◌<◌, ◌≤◌, ℕ, length, slice_get, slice_index_or, Some}
use Rattle.querier.specs.declared.answer.Answer.{Answer}
use Rattle.querier.proofs.alike.rest_have_at.Given as goal

abbrev pub invariant-loop-number : goal.invariant-loop-number
invariant-loop-number l = (k : ℕ) (d : Answer) → l.fn.start ≤ k → k < l.number → k < length l.fn.answers → slice_get (slice_index_or l.fn.answers k d).series l.fn.place ≡ Some l.fn.series
