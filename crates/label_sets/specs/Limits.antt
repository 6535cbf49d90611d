-- The limit of times.
use Rattle.std.specs.Prelude.{ℕ, ◌^◌}

-- how far from 0 the times of blocks and scripts may be
abbrev pub time_limit : ℕ
time_limit = 2 ^ 62
