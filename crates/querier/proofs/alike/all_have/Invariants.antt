use Rattle.std.specs.Prelude.{◌≡◌, ◌<◌, ℕ, All, slice_get}
use Rattle.querier.proofs.alike.all_have.Given as goal

abbrev pub invariant-loop-place : goal.invariant-loop-place
invariant-loop-place l = (k : ℕ) → k < l.place → All (λ answer. slice_get answer.series k ≡ slice_get l.fn.series k) l.fn.answers
