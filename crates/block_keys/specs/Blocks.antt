-- The objects of one block in the order of their upload.
use Rattle.std.specs.Prelude.{◌≡◌, ℕ, ◌≤◌, List, [], ◌∷◌, ◌++◌, length, All}
use Rattle.block_keys.specs.Keys.{segment_limit}
use Rattle.block_keys.specs.declared.key.Key.{Key}
use Rattle.block_keys.specs.declared.key.Key.TheVariants.{Meta, Index, Segment}
use Rattle.block_keys.specs.declared.object.Object.{Object}

-- a segment of the block, with a number that a key can have
abbrev pub IsSegmentOf : ℕ → Key → Type 0
IsSegmentOf ulid (Segment owner number) = (owner ≡ ulid) × ((1 ≤ number) × (number ≤ segment_limit))
IsSegmentOf ulid key = ⊥

-- the block's segments, then its index, then its meta
pub record IsBlock (ulid : ℕ) (objects : List Object) : Type 0 where
  pub segments : List Object
  pub index : Object
  pub meta : Object
  pub in_order : objects ≡ segments ++ index ∷ meta ∷ []
  pub segment_keys : All (λ object. IsSegmentOf ulid object.key) segments
  pub index_key : index.key ≡ Index ulid
  pub meta_key : meta.key ≡ Meta ulid
  pub few : length segments ≤ segment_limit
