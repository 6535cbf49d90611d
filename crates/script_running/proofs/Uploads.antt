-- What a drive of an upload leaves.
use Rattle.std.proofs.Common.{◌≡◌, ℕ, List, [], refl, sym, subst, inl, inr}
use Rattle.std.specs.Prelude.{Option, Some, None, Result, Ok, Err}
use Rattle.std.proofs.lemmas.List.{append-nil}
use Rattle.std.proofs.lemmas.List.Elements.{All-nil}
use Rattle.world_core.specs.Machines.{Drives}
use Rattle.world_core.specs.Plans.{Runs}
use Rattle.world_core.specs.declared.driving.Driven.{Driven}
use Rattle.world_core.specs.declared.entry.Entry.{Entry}
use Rattle.block_keys.specs.declared.object.Object.{Object}
use Rattle.shipper.specs.declared.upload.UploadEnd.{UploadEnd}
use Rattle.shipper.specs.Uploads.{upload}
use Rattle.script_core.specs.declared.block.Block.{Block}
use Rattle.script_workers.specs.declared.work.Work.TheVariants as works
use Rattle.lifecycle_core.specs.Setting.{Setting}
use Rattle.lifecycle_core.specs.Shipped.{IsRefused, IsShipped}
use Rattle.lifecycle_core.specs.Tasks.{End, ShipTask, StoppedRun, refused, uploaded}
use Rattle.lifecycle_core.specs.Ways.{IsDueAfter}
use Rattle.script_running.specs.Drives.{unshipped_came, upload_came}
use Rattle.script_running.specs.Outcomes.{Part}
use Rattle.script_running.specs.Shelves.{WhereRefused}
use Rattle.script_running.specs.Tasks.{Adds, CameBy}
use Rattle.script_running.specs.declared.came.Broken.{Broken}
use Rattle.script_running.specs.declared.came.Broken.TheVariants as broken
use Rattle.script_running.specs.declared.came.Came.TheVariants as part
use Rattle.script_running.specs.declared.unshipped.Unshipped.{Unshipped}
use Rattle.script_running.specs.declared.unshipped.Unshipped.TheVariants as unshipped
use Rattle.script_running.proofs.Stopped.{stopped_told}
use Rattle.script_running.proofs.TaskSteps.{due_by, when_full}

-- An upload of a block's objects that was driven is a run of the block's upload.
pub upload_told : (setting : Setting) (block : Block) (objects : List Object) (stop : Option ℕ) (seat : ℕ) (driven : Driven UploadEnd) (old new : List Entry) (came : Result Part Broken) (ulid : ℕ)
    → came ≡ upload_came driven → IsShipped setting block objects → Drives (Runs (upload block.ulid objects)) seat stop driven old new
    → (end : Option End) × Adds (ShipTask setting block stop) seat old new end came × CameBy (works.Upload ulid stop) end came
upload_told setting block objects stop seat driven old new came ulid c shipped d =
    let told = stopped_told (upload block.ulid objects) uploaded (λ end. part.Upload end) stop seat driven old new came (works.Upload ulid stop)
    c (record { ends = λ end. refl; stops = λ n. refl }) d in
    let ships : (made : List Entry) (end : Option End) → StoppedRun (upload block.ulid objects) uploaded stop made end → ShipTask setting block stop made end = λ made end run. inl (objects, run.0, shipped, run.1, run.2) in
    let a = told.1 in (
      told.0,
      record {
        made = a.made;
        entries = a.entries;
        seats = a.seats;
        run = ships a.made told.0 a.run;
        due = when_full came (IsDueAfter (StoppedRun (upload block.ulid objects) uploaded stop) seat a.made) (IsDueAfter (ShipTask setting block stop) seat a.made)
            (due_by (StoppedRun (upload block.ulid objects) uploaded stop) (ShipTask setting block stop) seat a.made (λ es e one. (e, ships es e one))) a.due;
      },
      told.2,
    )

-- where nothing was done
pub nothing_shipped : (setting : Setting) (block : Block) (stop : Option ℕ) (seat : ℕ) (journal : List Entry) (ulid : ℕ)
    → (end : Option End) × Adds (ShipTask setting block stop) seat journal journal end (Err broken.NoMemory) × CameBy (works.Upload ulid stop) end (Err broken.NoMemory)
nothing_shipped setting block stop seat journal ulid =
    (None, record { made = []; entries = sym (append-nil journal); seats = All-nil (λ e. e.seat ≡ seat); run = inr (inr (refl, refl)); due = tt }, tt)

-- where the block is not shipped
refused_told : (setting : Setting) (block : Block) (stop : Option ℕ) (seat : ℕ) (journal : List Entry) (ulid cause : ℕ) → IsRefused setting block cause
    → (end : Option End) × Adds (ShipTask setting block stop) seat journal journal end (Ok (part.Unshipped cause))
    × CameBy (works.Upload ulid stop) end (Ok (part.Unshipped cause))
refused_told setting block stop seat journal ulid cause is = (
  Some (refused cause),
  record { made = []; entries = sym (append-nil journal); seats = All-nil (λ e. e.seat ≡ seat); run = inr (inl (cause, is, (refl, inr refl))); due = tt },
  refl,
)

-- where it has no objects
pub unshipped_told : (setting : Setting) (block : Block) (stop : Option ℕ) (seat : ℕ) (journal : List Entry) (ulid : ℕ) (why : Unshipped) (came : Result Part Broken) → came ≡ unshipped_came why → WhereRefused (IsRefused setting block) why
    → (end : Option End) × Adds (ShipTask setting block stop) seat journal journal end came × CameBy (works.Upload ulid stop) end came
unshipped_told setting block stop seat journal ulid (unshipped.Refused cause) came c is =
    subst (λ (x : Result Part Broken). (end : Option End) × Adds (ShipTask setting block stop) seat journal journal end x × CameBy (works.Upload ulid stop) end x) (sym c) (refused_told setting block stop seat journal ulid cause is)
unshipped_told setting block stop seat journal ulid unshipped.NoMemory came c is =
    subst (λ (x : Result Part Broken). (end : Option End) × Adds (ShipTask setting block stop) seat journal journal end x × CameBy (works.Upload ulid stop) end x) (sym c) (nothing_shipped setting block stop seat journal ulid)
