-- How a call of one block runs: its entries, its end, and the cache that it leaves.
use Rattle.std.specs.Prelude.{◌≡◌, ℕ, ◌*◌, ◌^◌, List, Option}
use Rattle.label_sets.specs.declared.series.Series.{Series}
use Rattle.label_sets.specs.Triples.{triples_of}
use Rattle.world_core.specs.Plans.{Plan, ComesTo}
use Rattle.world_core.specs.declared.entry.Entry.{Entry}
use Rattle.store_ranges.specs.Caches.{held}
use Rattle.store_ranges.specs.Reads.{Query, Block, Cache, Break, missing, damaged, fault}
use Rattle.store_calls.specs.BlockReads.{BlockEnd, gives, breaks_off, block_call}
use Rattle.store_calls.specs.declared.block_call.BlockCall.{BlockCall}
use Rattle.store_calls.specs.declared.block_call.BlockOutcome.{BlockOutcome}
use Rattle.store_calls.specs.declared.block_call.BlockOutcome.TheVariants as outcome

abbrev pub outcome_of : Break → BlockOutcome
outcome_of (missing number) = outcome.Missing number
outcome_of (damaged number) = outcome.Damaged number
outcome_of (fault number) = outcome.Fault number

-- What the reads come to gives this end, where this cache is left.
abbrev pub IsEnd : Cache → BlockEnd → BlockOutcome → Type 0
IsEnd left (gives triples cache) end = ((series : List Series) × (end ≡ outcome.Taken series) × (triples_of series ≡ triples)) × (left ≡ cache)
IsEnd left (breaks_off break cache) end = (end ≡ outcome_of break) × (left ≡ cache)

-- what may follow, by its entries, its end, and the cache that is left
abbrev pub Onward : Type 1
Onward = List Entry → Option BlockOutcome → Cache → Type 0

abbrev pub Leading : Plan BlockEnd → Onward
Leading plan entries end left = ComesTo plan (IsEnd left) entries end

-- The entries and the end of a call of one block, and the cache that is left. Without an end it was broken off.
abbrev pub BlockRun : Query → Block → Cache → List Entry → Option BlockOutcome → Cache → Type 0
BlockRun query block cache = Leading (block_call query block cache)

-- the cache that a call has
abbrev pub cache_of : BlockCall → Cache
cache_of call = held call.cache

-- A call asks for no more operations than this.
unfoldable pub most_reads : ℕ
most_reads = 9 * 2 ^ 64 * 2 ^ 64
