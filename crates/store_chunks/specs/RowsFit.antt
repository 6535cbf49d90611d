-- Rows that are those of series.
use Rattle.std.specs.Prelude.{◌≡◌, ℕ, List, [], ◌∷◌, map}
use Rattle.label_sets.specs.declared.sample.Sample.{Sample}
use Rattle.index_parts.specs.SeriesEntry.{reference_of}
use Rattle.index_parts.specs.declared.index_series.IndexSeries.{IndexSeries}
use Rattle.store_ranges.specs.Reads.{Query}
use Rattle.store_chunks.specs.Taken.{taken}
use Rattle.store_chunks.specs.declared.chunk_row.RowChunk.{RowChunk}
use Rattle.store_chunks.specs.declared.chunk_row.ChunkRow.{ChunkRow}

-- the references of the chunks of a series that meet the range
abbrev pub references_taken : Query → IndexSeries → List ℕ
references_taken query series = map reference_of (taken query series)

abbrev pub row_names : List RowChunk → List ℕ
row_names chunks = map (λ (one : RowChunk). one.reference) chunks

abbrev pub row_references : ChunkRow → List ℕ
row_references row = row_names row.chunks.items

-- The first row has just the chunks at these references, and the others follow it; of no reference there is no row.
abbrev pub Begins : List ℕ → List ChunkRow → List ChunkRow → Type 0
Begins [] rows others = rows ≡ others
Begins (reference ∷ references) rows others = (row : ChunkRow) × (rows ≡ row ∷ others) × (row_references row ≡ reference ∷ references)

-- Each series that has chunks in the range has its row, in the order of the series.
abbrev pub HaveRows : Query → List IndexSeries → List ChunkRow → Type 0
HaveRows query [] rows = Unit {0}
HaveRows query (one ∷ series) rows = (others : List ChunkRow) × Begins (references_taken query one) rows others × HaveRows query series others

-- the samples of the row with which these begin
abbrev pub row_begun : List ℕ → List ChunkRow → List Sample
row_begun [] rows = []
row_begun (reference ∷ references) [] = []
row_begun (reference ∷ references) (row ∷ rows) = row.samples.items
