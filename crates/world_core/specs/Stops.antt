-- Stops: a run is stopped as soon as so many of its operations are answered. A stop at 0 stops nothing.
use Rattle.std.specs.Prelude.{◌≡◌, ℕ, ◌<◌, List, length, Option, Some}
use Rattle.world_core.specs.declared.entry.Entry.{Entry}

-- a run has come to its stop, after so many entries
abbrev pub IsStopped : Option ℕ → List Entry → ℕ → Type 0
IsStopped stop made n = (stop ≡ Some n) × (0 < n) × (length made ≡ n)

-- a run has not come to its stop, if there is one
abbrev pub IsBefore : Option ℕ → List Entry → Type 0
IsBefore stop made = (n : ℕ) → stop ≡ Some n → 0 < n → length made < n
