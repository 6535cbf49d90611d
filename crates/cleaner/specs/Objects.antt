-- The objects of a block that is deleted.
use Rattle.std.specs.Prelude.{ℕ, Bool, List, [], ◌∷◌, ◌++◌, Option, Some, None}
use Rattle.std.specs.List.{filter_map, list_all}
use Rattle.block_keys.specs.Keys.{is_lawful_key}
use Rattle.block_keys.specs.KeyText.{key_named}
use Rattle.block_keys.specs.declared.key.Key.{Key}
use Rattle.block_keys.specs.declared.key.Key.TheVariants.{Meta, Index, Segment, Mark}

-- a key of a segment or an index
abbrev pub only_data : Option Key → Option Key
only_data (Some (Segment ulid number)) = Some (Segment ulid number)
only_data (Some (Index ulid)) = Some (Index ulid)
only_data other = None

-- the key of the block's object with a name, if it is a segment or the index
abbrev pub data_named : ℕ → List ℕ → Option Key
data_named ulid name = only_data (key_named ulid name)

-- the segments and the index among a block's names, in order; every other name is passed over
abbrev pub data_keys : ℕ → List (List ℕ) → List Key
data_keys ulid names = filter_map (data_named ulid) names

-- The objects of a block in the order of their deletion, where these names were listed: the meta first, and last the mark, whether
-- they were listed or not.
abbrev pub objects_of : ℕ → List (List ℕ) → List Key
objects_of ulid names = Meta ulid ∷ data_keys ulid names ++ Mark ulid ∷ []

abbrev pub have_lawful_keys : List Key → Bool
have_lawful_keys keys = list_all is_lawful_key keys
