-- Which segments a list of chunk data gives, and where each chunk stands.
use Rattle.std.specs.Prelude.{◌≡◌, ℕ, ◌+◌, ◌<◌, ◌≤◌, List, [], ◌∷◌, ◌++◌, length, map, Option, None, Some}
use Rattle.std.specs.List.{flat_map, AllByRecursion}
use Rattle.index_parts.specs.Turns.{InOrder}
use Rattle.chunk_files.specs.Layout.{header_size, greatest}
use Rattle.chunk_files.specs.Chunk.{header, frame_text}
use Rattle.block_writing.specs.declared.segments.SegmentPlace.{SegmentPlace}

-- a segment of chunk data: the header, and behind it each chunk
abbrev pub segment_text : List (List ℕ) → List ℕ
segment_text run = header ++ flat_map frame_text run

-- A segment is begun for a chunk that the one before it cannot hold, and for none else. It has a chunk.
abbrev pub Begins : Option (List (List ℕ)) → List (List ℕ) → Type 0
Begins before [] = ⊥
Begins None (content ∷ run) = Unit {0}
Begins (Some before) (content ∷ run) = greatest < length (segment_text before) + length (frame_text content)

-- The list falls into these runs, one for each segment, and each is as long as a segment can hold.
pub record AreRuns (contents : List (List ℕ)) (runs : List (List (List ℕ))) : Type 0 where
  pub whole : flat_map (λ run. run) runs ≡ contents
  pub fit : AllByRecursion (λ run. length (segment_text run) ≤ greatest) runs
  pub begin : InOrder Begins runs

-- where each chunk of a run stands, if so many bytes stand before them
abbrev pub offsets_behind : ℕ → List (List ℕ) → List ℕ
offsets_behind size [] = []
offsets_behind size (content ∷ run) = size ∷ offsets_behind (size + length (frame_text content)) run

abbrev pub place_in : ℕ → ℕ → SegmentPlace
place_in number offset = record { segment = number; offset = offset }

-- the places of the chunks of runs, of which the first one's segment has this number
abbrev pub places_from : ℕ → List (List (List ℕ)) → List SegmentPlace
places_from number [] = []
places_from number (run ∷ runs) = map (place_in number) (offsets_behind header_size run) ++ places_from (number + 1) runs

-- the segments of a list of chunk data, and the chunks' places in them
pub record AreSegments (contents : List (List ℕ)) (places : List SegmentPlace) (segments : List (List ℕ)) : Type 0 where
  pub runs : List (List (List ℕ))
  pub runs_are : AreRuns contents runs
  pub places_are : places ≡ places_from 0 runs
  pub segments_are : segments ≡ map segment_text runs
