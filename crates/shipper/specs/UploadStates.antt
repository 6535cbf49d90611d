-- The plan at which an upload stands in each of its states. The machine's steps alone speak of this.
use Rattle.std.specs.Prelude.{◌≡◌, ℕ, ◌+◌, ◌-◌, List, length, drop, Option, Some}
use Rattle.block_keys.specs.declared.object.Object.{Object}
use Rattle.world_core.specs.Plans.{Plan, asked}
use Rattle.world_core.specs.declared.op.Op.{Op}
use Rattle.world_core.specs.declared.act.Act.{Act}
use Rattle.world_core.specs.declared.act.Act.TheVariants.{Do, Done}
use Rattle.shipper.specs.declared.upload.Stage.{Stage}
use Rattle.shipper.specs.declared.upload.Stage.TheVariants.{Looking, Putting}
use Rattle.shipper.specs.declared.upload.Upload.{Upload}
use Rattle.shipper.specs.declared.upload.UploadEnd.{UploadEnd}
use Rattle.shipper.specs.Uploads.{upload, putting}

-- what is left before the look, and before the put at a place
abbrev pub left_at : Stage → ℕ → List Object → ℕ → Plan UploadEnd
left_at Looking ulid objects place = upload ulid objects
left_at Putting ulid objects place = putting (length objects) (drop place objects)

abbrev pub left_of : Upload → Plan UploadEnd
left_of upload = left_at upload.stage upload.ulid upload.objects.value.items upload.place

abbrev pub asked_upload : Upload → Option Op
asked_upload upload = asked (left_of upload)

-- how many operations it asks for at most
abbrev pub count_at : Stage → List Object → ℕ → ℕ
count_at Looking objects place = length objects + 1
count_at Putting objects place = length objects - place

abbrev pub count_of : Upload → ℕ
count_of upload = count_at upload.stage upload.objects.value.items upload.place

-- a call that asks for the put at the place
abbrev pub PutsNext : List Object → ℕ → Act UploadEnd → Type 0
PutsNext objects place (Do op) = asked (putting (length objects) (drop place objects)) ≡ Some op
PutsNext objects place (Done end) = ⊥
