-- How many operations an upload asks for.
use Rattle.std.proofs.Common.{ℕ, ◌^◌, ◌<◌, ◌≤◌, List, length, arith}
use Rattle.block_keys.specs.declared.object.Object.{Object}
use Rattle.shipper.specs.Limits.{most_objects}
use Rattle.shipper.specs.UploadStates.{count_at}
use Rattle.shipper.specs.contracts.upload.UploadMachine.TheImpl.{ghosts}
use Rattle.shipper.specs.declared.upload.Stage.{Stage}
use Rattle.shipper.specs.declared.upload.Stage.TheVariants.{Looking, Putting}
use Rattle.shipper.specs.declared.upload.Upload.{Upload}

uploads_at : (stage : Stage) (objects : List Object) (place : ℕ) → length objects ≤ most_objects → count_at stage objects place < 2 ^ 100
uploads_at Looking objects place few = omega (arith, few)
uploads_at Putting objects place few = omega (arith, few)

-- they are fewer than so many
pub uploads_few : (u : Upload) → ghosts.measure u < 2 ^ 100
uploads_few u = uploads_at u.stage u.objects.value.items u.place u.few
