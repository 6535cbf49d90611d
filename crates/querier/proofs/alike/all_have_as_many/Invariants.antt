use Rattle.std.specs.Prelude.{◌≡◌, ◌<◌, ℕ, length, slice_index_or}
use Rattle.querier.specs.declared.answer.Answer.{Answer}
use Rattle.querier.proofs.alike.all_have_as_many.Given as goal

abbrev pub invariant-loop-answer : goal.invariant-loop-answer
invariant-loop-answer l = (k : ℕ) (d : Answer) → k < l.answer-index → length (slice_index_or l.answers k d).series ≡ l.fn.count
