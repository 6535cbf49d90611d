use Rattle.std.specs.Prelude.{◌≡◌, ◌<◌, ℕ, slice_index_or}
use Rattle.querier.proofs.alike.have_all.Given as goal

abbrev pub invariant-loop-place : goal.invariant-loop-place
invariant-loop-place l = (k : ℕ) (d : _) → k < l.place → (slice_index_or l.fn.samples k d ≡ slice_index_or l.fn.one k d) × (slice_index_or l.fn.samples k d ≡ slice_index_or l.fn.two k d) × (slice_index_or l.fn.samples k d ≡ slice_index_or l.fn.three k d) × (slice_index_or l.fn.samples k d ≡ slice_index_or l.fn.four k d)
