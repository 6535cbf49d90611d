use Rattle.std.proofs.Common.{◌≡◌, ℕ, true, ◌+◌, ◌<◌, ◌≤◌, length, get_or}
use Rattle.label_sets.specs.declared.sample.Sample.{Sample}
use Rattle.vertical_merge.specs.Joined.{has_lesser_time}
use Rattle.vertical_merge.proofs.sample_merge.last_fall.Given as goal

abbrev pub invariant-loop-place : goal.invariant-loop-place
invariant-loop-place l =
    (l.place ≤ length l.samples)
    × ((k : ℕ) (d : Sample) → l.place ≤ k → k < l.to → k + 1 < length l.samples
    → has_lesser_time (get_or l.samples k d) (get_or l.samples (k + 1) d) ≡ true)

abbrev pub decreases-loop-place : goal.decreases-loop-place
decreases-loop-place l = l.place
