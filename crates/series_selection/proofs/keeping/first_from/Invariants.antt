use Rattle.std.proofs.Common.{ℕ, ◌+◌, ◌-◌, ◌<◌, ◌≤◌, length, slice_index}
use Rattle.series_selection.proofs.keeping.first_from.Given as goal

abbrev pub invariant-loop-step : goal.invariant-loop-step
invariant-loop-step l =
    (l.from ≤ l.low) × (l.low ≤ length l.numbers) × (1 ≤ l.step) × (l.step ≤ length l.numbers + length l.numbers + 1)
    × ((k : ℕ) → l.from ≤ k → k < l.low → slice_index l.numbers k < l.least)

abbrev pub decreases-loop-step : goal.decreases-loop-step
decreases-loop-step l = length l.numbers - l.low
