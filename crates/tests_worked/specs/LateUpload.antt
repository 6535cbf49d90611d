-- A block whose ULID's time is 0 is uploaded half an hour later: its objects are put when the upload limit is over.
use Rattle.std.specs.Prelude.{List, [], ◌∷◌, None}
use Rattle.moment_core.specs.StandardRules.{standard_rules}
use Rattle.world_core.specs.declared.entry.Entry.{Entry}
use Rattle.shipper.specs.declared.upload.UploadEnd.TheVariants as shipped
use Rattle.script_core.specs.declared.script.Script.{Script}
use Rattle.script_workers.specs.declared.work.Work.TheVariants.{Upload}
use Rattle.lifecycle_core.specs.Setting.{Setting, setting_of}
use Rattle.lifecycle_core.specs.Tasks.{End, uploaded}
use Rattle.tests_worked.specs.SmallBlock as small
use Rattle.tests_worked.specs.SmallRuns as runs
use Rattle.tests_worked.specs.Entries.{clock}

abbrev pub script : Script
script = record {
  rules = standard_rules;
  gateways = [];
  partitions = [];
  blocks = small.block ∷ [];
  selectors = [];
  phases = record {
    line = 3;
    moment = record { ms = 1_800_000 };
    tasks =
        record { line = 4; work = Upload small.a None }
        ∷ [];
  } ∷ [];
}

abbrev pub setting : Setting
setting = setting_of script

abbrev pub upload : List Entry
upload = runs.upload 2 1 1_800_001

abbrev pub journal : List Entry
journal = clock 1 1_800_000 ∷ upload

abbrev pub ends : List (List (List End))
ends = ((uploaded (shipped.Done 3) ∷ []) ∷ []) ∷ []
