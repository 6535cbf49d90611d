-- How many times and entropies ULIDs have.
use Rattle.std.specs.Prelude.{ℕ, ◌^◌}

-- the least number of milliseconds that is no ULID's time
abbrev pub ulid_time_limit : ℕ
ulid_time_limit = 2 ^ 48

-- how many ULIDs have the same time: one for each entropy
abbrev pub entropy_count : ℕ
entropy_count = 2 ^ 80
