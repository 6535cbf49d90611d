-- The reads of a block begin with an operation.
use Rattle.std.proofs.Common.{ℕ, Bool, true, false, [], Option, Some, None}
use Rattle.std.specs.Prelude.{nat_le}
use Rattle.std.specs.List.{flat_map}
use Rattle.world_core.specs.Plans.{Plan, Runs, ends, choose}
use Rattle.index_parts.specs.IndexFile.{least_size}
use Rattle.store_ranges.specs.Reads.{Query, Block, Cache}
use Rattle.store_ranges.specs.IndexReads.{Goes, by_size, reads_contents, reads_whole}
use Rattle.store_chunks.specs.ChunkReads.{reads_chunks}
use Rattle.store_chunks.specs.Taken.{shown, taken}
use Rattle.store_calls.specs.BlockReads.{BlockEnd, gives, breaks_off, block_call}

abbrev EndsAtOnce : Plan BlockEnd → BlockEnd → Type 0
EndsAtOnce plan told = Runs plan [] (Some told)

either : (b : Bool) (one other : Plan BlockEnd) (told : BlockEnd) → (EndsAtOnce one told → ⊥) → (EndsAtOnce other told → ⊥) → EndsAtOnce (choose b one other) told → ⊥
either true one other told first second run = first run
either false one other told first second run = second run

-- what follows the series of the index
abbrev after : (query : Query) (block : Block) → Goes {E = BlockEnd} breaks_off query block
after query block at series =
    reads_chunks breaks_off query block (flat_map (taken query) series) at.cache at.last (λ found. ends (gives (flat_map (shown query block found) series) at.cache))

by_index : (query : Query) (block : Block) (cache : Cache) (size : Option ℕ) (told : BlockEnd) → EndsAtOnce (by_size breaks_off query block size (after query block) cache) told → ⊥
by_index query block cache None told run = cc (run)
by_index query block cache (Some size) told run =
    either (nat_le least_size size) (reads_contents breaks_off query block size (after query block) cache) (reads_whole breaks_off query block (after query block) cache) told
    (λ one. cc (one)) (λ other. cc (other)) run

pub reads_first : (query : Query) (block : Block) (cache : Cache) (told : BlockEnd) → Runs (block_call query block cache) [] (Some told) → ⊥
reads_first query block cache told run = by_index query block cache block.index_size told run
