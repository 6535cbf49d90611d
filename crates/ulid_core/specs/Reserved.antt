-- The ULIDs that are kept for compacted blocks: in each millisecond those of the greatest entropies.
use Rattle.std.specs.Prelude.{ℕ, ◌-◌, ◌^◌}
use Rattle.ulid_core.specs.Limits.{entropy_count}

-- how many there are in each millisecond
abbrev pub reserved_count : ℕ
reserved_count = 2 ^ 20

-- the least entropy that is kept
abbrev pub least_reserved : ℕ
least_reserved = entropy_count - reserved_count
