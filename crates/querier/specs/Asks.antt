-- Which gateways a query asks, and for which times.
use Rattle.std.specs.Prelude.{ℕ, ℤ, int_le, Bool, List, map}
use Rattle.std.specs.List.{filter, enumerate_from}
use Rattle.moment_core.specs.Partitions.{common}
use Rattle.moment_core.specs.declared.partition.Partition.{Partition}
use Rattle.querier.specs.declared.asking.Ask.{Ask}

-- what the gateway of a partition is asked of these times: those that lie in its partition
abbrev pub ask_of : Partition → ℕ → Partition → Ask
ask_of times gateway partition =
    record { gateway = gateway; low = (common times partition).low; high = (common times partition).high }

-- some time is asked for
abbrev pub has_times : Ask → Bool
has_times ask = int_le ask.low ask.high

-- what the gateways of these partitions are asked, the first of which has this number: one that has no such time is not asked
abbrev pub asks_from : Partition → ℕ → List Partition → List Ask
asks_from times number partitions =
    filter has_times (map (λ (gateway : ℕ × Partition). ask_of times gateway.0 gateway.1) (enumerate_from number partitions))

-- what each gateway is asked in a query for the times from low to high
abbrev pub asks_of : ℤ → ℤ → List Partition → List Ask
asks_of low high partitions = asks_from (record { low = low; high = high }) 0 partitions
