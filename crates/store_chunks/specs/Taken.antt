-- What a query takes of the chunks that were read: of each matching series the samples in the range of its places that meet it.
use Rattle.std.specs.Prelude.{◌==◌, List, [], find, option_map, unwrap_or}
use Rattle.std.specs.List.{filter, flat_map}
use Rattle.label_sets.specs.declared.sample.Sample.{Sample}
use Rattle.label_sets.specs.Finals.{final_of}
use Rattle.label_sets.specs.Triples.{Triple, triples_under}
use Rattle.index_parts.specs.declared.chunk_place.ChunkPlace.{ChunkPlace}
use Rattle.index_parts.specs.SeriesEntry.{reference_of}
use Rattle.index_parts.specs.declared.index_series.IndexSeries.{IndexSeries}
use Rattle.store_ranges.specs.ChunkRanges.{meets}
use Rattle.store_ranges.specs.Reads.{Query, Block}
use Rattle.store_chunks.specs.ChunkReads.{Read}

-- the chunk places of a series that meet the range
abbrev pub taken : Query → IndexSeries → List ChunkPlace
taken query series = filter (meets query.low query.high) series.chunks

-- the samples that were read at a place, which are those in the range
abbrev pub samples_of : List Read → ChunkPlace → List Sample
samples_of found place = unwrap_or (option_map (λ one. one.samples) (find (λ one. one.reference == reference_of place) found)) []

-- the samples of a series that were read, under its final labels
unfoldable pub shown : Query → Block → List Read → IndexSeries → List Triple
shown query block found series =
    triples_under (final_of series.labels block.external query.replicas) (flat_map (samples_of found) (taken query series))
