-- The limits of a world.
use Rattle.std.specs.Prelude.{ℕ}
pub use Rattle.moment_core.specs.Limits.{moment_limit}

-- how many entries a journal takes
abbrev pub most_entries : ℕ
most_entries = 1_048_576

-- a journal that keeps as many bytes takes no more entries
abbrev pub most_kept : ℕ
most_kept = 1_073_741_824

-- a walk of pages that has listed so many names, and has not come to its end, is given up
abbrev pub most_listed : ℕ
most_listed = 1_000_000
