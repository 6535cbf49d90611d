-- The chunks that were read, as the code has them.
use Rattle.std.specs.Prelude.{ℕ, List, [], ◌∷◌, map, take, drop}
use Rattle.std.specs.List.{flat_map}
use Rattle.label_sets.specs.declared.sample.Sample.{Sample}
use Rattle.store_chunks.specs.ChunkReads.{Read, read}
use Rattle.store_chunks.specs.declared.chunk_row.RowChunk.{RowChunk}
use Rattle.store_chunks.specs.declared.chunk_row.ChunkRow.{ChunkRow}
use Rattle.store_chunks.specs.declared.shown.ChunkRead.{ChunkRead}

-- ---- in rows

-- chunks whose samples stand in one list, one behind another
abbrev pub reads_from : List Sample → List RowChunk → List Read
reads_from samples [] = []
reads_from samples (chunk ∷ chunks) = read chunk.reference (take chunk.count samples) ∷ reads_from (drop chunk.count samples) chunks

abbrev pub row_reads : ChunkRow → List Read
row_reads row = reads_from row.samples.items row.chunks.items

abbrev pub reads_of : List ChunkRow → List Read
reads_of rows = flat_map row_reads rows

abbrev pub references_read : List Read → List ℕ
references_read found = map (λ (one : Read). one.reference) found

abbrev pub references_in : List ChunkRow → List ℕ
references_in rows = references_read (reads_of rows)

-- ---- each by itself

abbrev pub reads_apart : List ChunkRead → List Read
reads_apart found = map (λ one. read one.reference one.samples) found

abbrev pub references_apart : List ChunkRead → List ℕ
references_apart found = map (λ one. one.reference) found
