-- How many segments the blocks have that are read, beside how many their indexes name, and how many blocks there are beside the one
-- at hand.
use Rattle.std.specs.Prelude.{ℕ, ◌+◌, ◌-◌, max, List, [], ◌∷◌, length, Option, None, Some}
use Rattle.compactor.specs.Named.{named_segments}
use Rattle.compactor.specs.declared.input.Input.{Input}
use Rattle.compactor.specs.declared.reads.ReadStage.{ReadStage}
use Rattle.compactor.specs.declared.reads.ReadStage.TheVariants.{Fresh, Indexing, Segmenting, Over}

-- the number of its last segment, while one is waited for
abbrev pub last_segment : ReadStage → ℕ
last_segment (Fresh meta) = 0
last_segment (Indexing meta) = 0
last_segment (Segmenting input more) = length input.segments + 1 + more
last_segment Over = 0

-- how far so many segments are from those that an index names, and 1 where it names none
abbrev pub off : Option ℕ → ℕ → ℕ
off None many = 1
off (Some count) many = (count - many) + (many - count)

-- how far one of the blocks is at most from having just the segments that its index names
abbrev pub most_off : List Input → ℕ
most_off [] = 0
most_off (input ∷ inputs) = max (off (named_segments input.index.bytes) (length input.segments)) (most_off inputs)

-- the same of the block that is read, with the segments that are still to come
abbrev pub stage_off : ReadStage → ℕ
stage_off (Fresh meta) = 0
stage_off (Indexing meta) = 0
stage_off (Segmenting input more) = off (named_segments input.index.bytes) (length input.segments + 1 + more)
stage_off Over = 0

-- beside the block that is read there is another one, which was read or waits
abbrev pub others_of : ReadStage → ℕ
others_of (Fresh meta) = 1
others_of (Indexing meta) = 1
others_of (Segmenting input more) = 1
others_of Over = 0
