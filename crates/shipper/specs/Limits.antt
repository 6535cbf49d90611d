-- What an upload keeps of its objects.
use Rattle.std.specs.Prelude.{ℕ, ◌+◌, Bool, List}
use Rattle.std.specs.List.{list_all}
use Rattle.block_keys.specs.Keys.{is_lawful_key, segment_limit}
use Rattle.block_keys.specs.declared.object.Object.{Object}
use Rattle.shipper.specs.declared.upload.Stage.{Stage}
use Rattle.shipper.specs.declared.upload.Stage.TheVariants.{Looking, Putting}

-- how many objects a block has at most: its segments, the index and the meta
abbrev pub most_objects : ℕ
most_objects = segment_limit + 2

abbrev pub have_lawful_keys : List Object → Bool
have_lawful_keys objects = list_all (λ object. is_lawful_key object.key) objects

-- how many puts were asked for where one is waited for at this place, or none yet
abbrev pub begun : Stage → ℕ → ℕ
begun Looking place = 0
begun Putting place = place + 1
