use Rattle.std.proofs.Common.{ℕ, ◌-◌, ◌<◌, ◌≤◌, length, slice_index}
use Rattle.series_selection.proofs.keeping.place_by_halves.Given as goal

abbrev pub invariant-loop-low : goal.invariant-loop-low
invariant-loop-low l =
    (l.from ≤ l.low) × (l.low ≤ l.high) × (l.high ≤ length l.numbers)
    × ((k : ℕ) → l.from ≤ k → k < l.low → slice_index l.numbers k < l.least)
    × (l.high < length l.numbers → l.least ≤ slice_index l.numbers l.high)

abbrev pub decreases-loop-low : goal.decreases-loop-low
decreases-loop-low l = l.high - l.low
