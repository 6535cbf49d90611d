-- The objects of a block.
use Rattle.std.specs.Prelude.{ℕ, ◌+◌, List, [], ◌∷◌, ◌++◌}
use Rattle.block_keys.specs.declared.key.Key.TheVariants as key
use Rattle.block_keys.specs.declared.object.Object.{Object}

-- segments under their keys, numbered from this number on
unfoldable pub segment_objects : ℕ → ℕ → List (List ℕ) → List Object
segment_objects ulid number [] = []
segment_objects ulid number (bytes ∷ segments) =
    record { key = key.Segment ulid number; bytes = bytes } ∷ segment_objects ulid (number + 1) segments

-- the objects of a block in the order of their upload: segments, index, meta
unfoldable pub objects_of : ℕ → List (List ℕ) → List ℕ → List ℕ → List Object
objects_of ulid segments index meta =
    segment_objects ulid 1 segments ++ record { key = key.Index ulid; bytes = index } ∷ record { key = key.Meta ulid; bytes = meta } ∷ []
