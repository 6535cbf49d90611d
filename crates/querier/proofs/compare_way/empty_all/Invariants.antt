use Rattle.std.specs.Prelude.{◌≡◌, ◌<◌, [], ℕ, slice_index_or}
use Rattle.querier.specs.declared.answer.Answer.{Answer}
use Rattle.querier.proofs.compare_way.empty_all.Given as goal

-- those before the place have no series
abbrev pub invariant-loop-place : goal.invariant-loop-place
invariant-loop-place l = (j : ℕ) (d : Answer) → j < l.place → (slice_index_or l.answers j d).series ≡ []
