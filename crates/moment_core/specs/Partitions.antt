-- Ranges of times, both ends of which are in them.
use Rattle.std.specs.Prelude.{◌-◌, ◌^◌, ℤ, pos, negsuc, ◌≤ℤ◌}
use Rattle.std.specs.Int.{int_min, int_max}
use Rattle.moment_core.specs.declared.partition.Partition.{Partition}

-- The time lies in the range.
pub record IsIn (partition : Partition) (time : ℤ) : Type 0 where
  pub from : partition.low ≤ℤ time
  pub upto : time ≤ℤ partition.high

-- the range of all times of 64 bits
abbrev pub all_times : Partition
all_times = record { low = negsuc (2 ^ 63 - 1); high = pos (2 ^ 63 - 1) }

-- the times that two ranges have in common
abbrev pub common : Partition → Partition → Partition
common one other = record { low = int_max one.low other.low; high = int_min one.high other.high }
