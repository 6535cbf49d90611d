-- An upload: one look at the block's meta, and where it is absent the puts of the objects, one after another.
use Rattle.std.specs.Prelude.{ℕ, List, [], ◌∷◌, length}
use Rattle.block_keys.specs.declared.key.Key.TheVariants as key
use Rattle.block_keys.specs.declared.object.Object.{Object}
use Rattle.world_core.specs.Plans.{Plan, ends, gets, puts}
use Rattle.shipper.specs.declared.upload.UploadEnd.{UploadEnd}
use Rattle.shipper.specs.declared.upload.UploadEnd.TheVariants.{Done, Already, Fault}

-- the puts of the objects that are left, each after the one before it was stored; `total` were to be put
abbrev pub putting : ℕ → List Object → Plan UploadEnd
putting total [] = ends (Done total)
putting total (object ∷ objects) = puts Fault object.key object.bytes (λ e. putting total objects)

-- the upload of a block's objects
abbrev pub upload : ℕ → List Object → Plan UploadEnd
upload ulid objects =
    gets Fault (key.Meta ulid) (λ e bytes. ends Already) (λ e. putting (length objects) objects)
