-- A call's reads of one block: of its index, and then of the chunks of matching series that meet the range.
use Rattle.std.specs.Prelude.{List}
use Rattle.std.specs.List.{flat_map}
use Rattle.label_sets.specs.Triples.{Triple}
use Rattle.world_core.specs.Plans.{Plan, ends}
use Rattle.store_ranges.specs.Reads.{Query, Block, Cache, Break}
use Rattle.store_ranges.specs.IndexReads.{reads_index}
use Rattle.store_chunks.specs.ChunkReads.{reads_chunks}
use Rattle.store_chunks.specs.Taken.{taken, shown}

-- The reads of a block, and what follows its samples that the query asks for, in the order of the index.
abbrev pub reads_block : {E : Type 0} → (Break → Cache → E) → Query → Block → Cache → (Cache → List Triple → Plan E) → Plan E
reads_block breaks query block cache next =
    reads_index breaks query block cache
    (λ at series. reads_chunks breaks query block (flat_map (taken query) series) at.cache at.last
    (λ found. next at.cache (flat_map (shown query block found) series)))

-- ---- the call

-- what the reads of a block come to, with the cache that they leave
pub data BlockEnd : Type 0 where
  gives : List Triple → Cache → BlockEnd
  breaks_off : Break → Cache → BlockEnd

abbrev pub block_call : Query → Block → Cache → Plan BlockEnd
block_call query block cache = reads_block breaks_off query block cache (λ after triples. ends (gives triples after))
