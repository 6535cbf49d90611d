use Rattle.std.proofs.Common.{◌≡◌, ◌+◌, ◌-◌, ◌≤◌, ◌++◌, length, drop}
use Rattle.vertical_merge.specs.Joined.{first_samples}
use Rattle.vertical_merge.proofs.sample_merge.with_merged.Given as goal

abbrev pub invariant-loop-here : goal.invariant-loop-here
invariant-loop-here l =
    (l.here ≤ length l.samples) × (l.there ≤ length l.others)
    × (l.made.items ++ first_samples (drop l.here l.samples ++ drop l.there l.others) ≡ l.fn.list.items ++ first_samples (l.samples ++ l.others))

abbrev pub decreases-loop-here : goal.decreases-loop-here
decreases-loop-here l = (length l.samples - l.here) + (length l.others - l.there)
