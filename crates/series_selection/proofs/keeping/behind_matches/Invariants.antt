use Rattle.std.proofs.Common.{◌≡◌, ℕ, ◌+◌, ◌-◌, ◌<◌, ◌≤◌, length, slice_index, true}
use Rattle.base.specs.Lists.{is_one_of}
use Rattle.series_selection.proofs.keeping.behind_matches.Given as goal

abbrev pub invariant-loop-behind : goal.invariant-loop-behind
invariant-loop-behind l =
    (l.end ≤ l.behind) × (l.behind ≤ length l.numbers) × (l.next + l.end ≡ l.there + l.behind)
    × ((k : ℕ) → l.end ≤ k → k < l.behind → is_one_of l.others (slice_index l.numbers k) ≡ true)

abbrev pub decreases-loop-behind : goal.decreases-loop-behind
decreases-loop-behind l = length l.numbers - l.behind
