-- Which index and which segments a block of these series has.
use Rattle.std.specs.Prelude.{◌≡◌, ℕ, ◌<◌, List, length, map, ℤ}
use Rattle.std.specs.List.{flat_map, AllZip}
use Rattle.index_parts.specs.declared.chunk_place.ChunkPlace.{ChunkPlace}
use Rattle.index_parts.specs.declared.index_series.IndexSeries.{IndexSeries}
use Rattle.index_writing.specs.WriteSteps.{greatest}
use Rattle.index_writing.specs.Written.{written}
use Rattle.block_writing.specs.declared.segments.SegmentPlace.{SegmentPlace}
use Rattle.block_writing.specs.Put.{PutChunk, PutSeries, contents_of}
use Rattle.block_writing.specs.Segments.{AreSegments}
use Rattle.block_writing.specs.Writing.{part_of}

abbrev pub place_times : ChunkPlace → ℤ × ℤ
place_times place = (place.min, place.max)

abbrev pub put_times : PutChunk → ℤ × ℤ
put_times chunk = (chunk.min, chunk.max)

-- A series of the index has the labels of the one that was put, and for each of its chunks a place with the chunk's times.
pub record IsListed (series : PutSeries) (listed : IndexSeries) : Type 0 where
  pub labels_are : listed.labels ≡ series.labels
  pub times_are : map place_times listed.chunks ≡ map put_times series.chunks

-- where the chunks of all these series stand
abbrev pub places_in : List IndexSeries → List SegmentPlace
places_in listed = map part_of (flat_map (λ s. s.chunks) listed)

-- The segments are those of the series' chunks in order, and the index is the one of the series, with these chunks' places.
pub record AreFilesOf (series : List PutSeries) (index : List ℕ) (segments : List (List ℕ)) : Type 0 where
  pub listed : List IndexSeries
  pub series_are : AllZip IsListed series listed
  pub segments_are : AreSegments (contents_of series) (places_in listed) segments
  pub index_is : index ≡ written listed

-- the series have an index that would pass its greatest length
pub record HaveNoIndex (series : List PutSeries) : Type 0 where
  pub index : List ℕ
  pub segments : List (List ℕ)
  pub files : AreFilesOf series index segments
  pub large : greatest < length index
