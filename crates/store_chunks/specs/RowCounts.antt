-- How many samples the chunks of a row have.
use Rattle.std.specs.Prelude.{ℕ, ◌+◌, List, [], ◌∷◌}
use Rattle.store_chunks.specs.declared.chunk_row.RowChunk.{RowChunk}

abbrev pub counted : List RowChunk → ℕ
counted [] = 0
counted (chunk ∷ chunks) = chunk.count + counted chunks
