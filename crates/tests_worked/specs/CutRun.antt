-- The script of one block, whose run was broken off in its second phase: the clock was set, and the gateway's first page is due.
use Rattle.std.specs.Prelude.{List, [], ◌∷◌, ◌++◌, None}
use Rattle.world_core.specs.declared.entry.Entry.{Entry}
use Rattle.shipper.specs.declared.upload.UploadEnd.TheVariants as shipped
use Rattle.script_workers.specs.declared.phase.Phase.{Phase}
use Rattle.script_workers.specs.declared.work.Work.TheVariants.{Upload}
use Rattle.lifecycle_core.specs.Tasks.{End, uploaded}
use Rattle.tests_worked.specs.SmallBlock as small
use Rattle.tests_worked.specs.OneBlock as one
use Rattle.tests_worked.specs.Entries.{clock}

abbrev pub journal : List Entry
journal = clock 1 0 ∷ one.upload ++ clock 6 1_800_000 ∷ []

-- the phases that were finished, and to what they came
abbrev pub done : List Phase
done =
    record {
      line = 5;
      moment = record { ms = 0 };
      tasks =
          record { line = 6; work = Upload small.a None }
          ∷ [];
    }
    ∷ []

abbrev pub told : List (List (List End))
told = ((uploaded (shipped.Done 3) ∷ []) ∷ []) ∷ []
