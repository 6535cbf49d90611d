-- The script of one block, with its query twice. The second one finds in what its gateway kept all that it needs of the index but the
-- table of contents.
use Rattle.std.specs.Prelude.{pos, List, [], ◌∷◌, ◌++◌, None}
use Rattle.block_keys.specs.declared.key.Key.TheVariants as key
use Rattle.world_core.specs.declared.entry.Entry.{Entry}
use Rattle.shipper.specs.declared.upload.UploadEnd.TheVariants as shipped
use Rattle.meta_fetcher.specs.declared.sync.SyncEnd.TheVariants as fetched
use Rattle.store_calls.specs.declared.series_call.SeriesEnd.TheVariants as called
use Rattle.script_core.specs.declared.script.Script.{Script}
use Rattle.script_workers.specs.declared.task.Task.{Task}
use Rattle.script_workers.specs.declared.work.Work.TheVariants.{Upload, Sync, Query}
use Rattle.lifecycle_core.specs.Setting.{Setting, setting_of}
use Rattle.lifecycle_core.specs.Tasks.{End, uploaded, synced, answered}
use Rattle.tests_worked.specs.Entries.{clock, in_range}
use Rattle.tests_worked.specs.OneBlock as one
use Rattle.tests_worked.specs.SmallBlock as small
use Rattle.tests_worked.specs.SmallFiles as files
use Rattle.tests_worked.specs.SmallRuns as runs

abbrev pub tasks : List Task
tasks =
    record { line = 8; work = Sync 0 }
    ∷ record { line = 9; work = Query (pos 0) (pos 5000) 0 }
    ∷ record { line = 10; work = Query (pos 0) (pos 5000) 1 }
    ∷ []

abbrev pub script : Script
script = record {
  rules = one.script.rules;
  gateways = one.script.gateways;
  partitions = one.script.partitions;
  blocks = one.script.blocks;
  selectors = one.selector ∷ one.selector ∷ [];
  phases =
      record {
        line = 5;
        moment = record { ms = 0 };
        tasks =
            record { line = 6; work = Upload small.a None }
            ∷ [];
      }
      ∷ record { line = 7; moment = record { ms = 1_800_000 }; tasks = tasks }
      ∷ [];
}

abbrev pub setting : Setting
setting = setting_of script

abbrev pub again : List Entry
again = runs.query_again 16 2 1_800_010

-- what follows the second clock entry
abbrev pub made : List Entry
made = one.sync ++ (one.query ++ again)

abbrev pub journal : List Entry
journal = clock 1 0 ∷ one.upload ++ clock 6 1_800_000 ∷ made

-- the second query reads the symbols a second time, which its gateway has kept
abbrev pub symbols_read : Entry
symbols_read = in_range 17 2 1_800_011 (key.Index small.a) 5 27 files.symbols

abbrev pub asked_twice : List Entry
asked_twice =
    clock 1 0
    ∷ one.upload ++ clock 6 1_800_000
    ∷ one.sync ++ (one.query ++ runs.contents_read 16 2 1_800_010 ∷ symbols_read ∷ [])

abbrev pub answer : End
answer = answered one.used (called.Answer (small.up ∷ []) (small.a ∷ []))

abbrev pub ends : List (List (List End))
ends =
    ((uploaded (shipped.Done 3) ∷ []) ∷ [])
    ∷ ((synced (fetched.View one.view) ∷ answer ∷ answer ∷ []) ∷ [])
    ∷ []
