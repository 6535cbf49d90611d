-- When a ULID was made, as it says.
use Rattle.std.specs.Prelude.{ℕ, ◌/◌}
use Rattle.ulid_core.specs.Limits.{entropy_count}

-- the milliseconds of a ULID
abbrev pub time_of : ℕ → ℕ
time_of ulid = ulid / entropy_count
