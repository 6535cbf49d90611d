-- What is asked of a block, as the code has it.
use Rattle.store_ranges.specs.IndexRanges.{Piece}
use Rattle.store_ranges.specs.Reads.{Query, Block, block_of}
use Rattle.store_ranges.specs.declared.byte_range.ByteRange.{ByteRange}
use Rattle.store_ranges.specs.declared.asked.Asked.{Asked}

abbrev pub query_asked : Asked → Query
query_asked asked = record { selector = asked.selector.now; replicas = asked.replicas.now; low = asked.low; high = asked.high }

abbrev pub block_asked : Asked → Block
block_asked asked = block_of asked.ulid asked.meta.now

abbrev pub piece_of : ByteRange → Piece
piece_of range = record { from = range.from; len = range.len }
