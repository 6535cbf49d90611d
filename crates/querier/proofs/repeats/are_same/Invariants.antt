use Rattle.std.specs.Prelude.{◌≡◌, ◌<◌, ℕ, slice_index_or}
use Rattle.querier.proofs.repeats.are_same.Given as goal

abbrev pub invariant-loop-place : goal.invariant-loop-place
invariant-loop-place l = (k : ℕ) (d : _) → k < l.place → slice_index_or l.fn.series k d ≡ slice_index_or l.fn.others k d
