-- Two gateways, one of which has a partition, answer one query together. The script is
--
--     gateway g
--     gateway h 0 1500
--     block 0000000000000000000000000A 1000 2000 {}
--     series {__name__="up"} 1000:3ff0000000000000
--     at 0
--     upload 0000000000000000000000000A
--     at 1800000
--     sync g
--     sync h
--     query 0 5000 up
use Rattle.std.specs.Prelude.{pos, List, [], ◌∷◌, ◌++◌, codes, None, Some, ℕ}
use Rattle.std.specs.List.{join_with_byte}
use Rattle.moment_core.specs.Partitions.{all_times}
use Rattle.moment_core.specs.StandardRules.{standard_rules}
use Rattle.moment_core.specs.declared.partition.Partition.{Partition}
use Rattle.world_core.specs.declared.entry.Entry.{Entry}
use Rattle.shipper.specs.declared.upload.UploadEnd.TheVariants as shipped
use Rattle.meta_fetcher.specs.declared.view.View.{View}
use Rattle.meta_fetcher.specs.declared.sync.SyncEnd.TheVariants as fetched
use Rattle.store_calls.specs.declared.series_call.SeriesEnd.TheVariants as called
use Rattle.script_core.specs.declared.script.Script.{Script}
use Rattle.script_workers.specs.declared.task.Task.{Task}
use Rattle.script_workers.specs.declared.work.Work.TheVariants.{Upload, Sync, Query}
use Rattle.lifecycle_core.specs.Guarantees.{Answered, Named}
use Rattle.lifecycle_core.specs.Holdings.{Use}
use Rattle.lifecycle_core.specs.Setting.{Setting, setting_of}
use Rattle.lifecycle_core.specs.Tasks.{End, uploaded, synced, answered}
use Rattle.tests_worked.specs.SmallBlock as small
use Rattle.tests_worked.specs.SmallRuns as runs
use Rattle.tests_worked.specs.OneBlock as one
use Rattle.tests_worked.specs.Entries.{clock}

-- the second gateway's partition
abbrev pub early : Partition
early = record { low = pos 0; high = pos 1500 }

abbrev pub first_tasks : List Task
first_tasks = record { line = 6; work = Upload small.a None } ∷ []

abbrev pub second_tasks : List Task
second_tasks =
    record { line = 8; work = Sync 0 }
    ∷ record { line = 9; work = Sync 1 }
    ∷ record { line = 10; work = Query (pos 0) (pos 5000) 0 }
    ∷ []

abbrev pub script : Script
script = record {
  rules = standard_rules;
  gateways = codes "g" ∷ codes "h" ∷ [];
  partitions = all_times ∷ early ∷ [];
  blocks = small.block ∷ [];
  selectors = one.selector ∷ [];
  phases =
      record { line = 5; moment = record { ms = 0 }; tasks = first_tasks }
      ∷ record { line = 7; moment = record { ms = 1_800_000 }; tasks = second_tasks }
      ∷ [];
}

abbrev pub setting : Setting
setting = setting_of script

-- ---- the run: the upload is done at seat 1, the gateways have seats 2 and 3

abbrev pub upload : List Entry
upload = runs.upload 2 1 1

abbrev pub made : List Entry
made = runs.sync 7 2 1_800_001 ++ runs.sync 10 3 1_800_004 ++ runs.query 13 2 1_800_007 ++ runs.query 19 3 1_800_013

abbrev pub journal : List Entry
journal = clock 1 0 ∷ upload ++ clock 6 1_800_000 ∷ made

-- what a gateway uses whose sync begins with this entry, at this moment
abbrev pub view_from : ℕ → ℕ → View
view_from seq moment = runs.view seq moment (Some (runs.seen moment))

abbrev pub used_by_g : Use
used_by_g = record { view = view_from 7 1_800_001; last = 9 }

abbrev pub used_by_h : Use
used_by_h = record { view = view_from 10 1_800_004; last = 12 }

abbrev pub answer_by : Use → End
answer_by used = answered used (called.Answer (small.up ∷ []) (small.a ∷ []))

abbrev pub ends_by : Use → List End
ends_by used = synced (fetched.View used.view) ∷ answer_by used ∷ []

abbrev pub ends : List (List (List End))
ends = ((uploaded (shipped.Done 3) ∷ []) ∷ []) ∷ (ends_by used_by_g ∷ ends_by used_by_h ∷ []) ∷ []

-- ---- its answer: each gateway names the block, for the times that it was asked

abbrev pub by_g : Named
by_g = record { gateway = 0; used = used_by_g; low = pos 0; high = pos 5000; sources = small.a ∷ [] }

abbrev pub by_h : Named
by_h = record { gateway = 1; used = used_by_h; low = pos 0; high = pos 1500; sources = small.a ∷ [] }

abbrev pub answered_by : List Named → Answered
answered_by named = record { selector = one.selector; named = named; samples = small.triple ∷ [] }

abbrev pub asked : Answered
asked = answered_by (by_g ∷ by_h ∷ [])

-- ---- what it prints

unfoldable pub report : List ℕ
report = join_with_byte 10 (
    codes "upload 0000000000000000000000000A: ok 3 objects"
    ∷ codes "sync g: 1 blocks"
    ∷ codes "sync h: 1 blocks"
    ∷ codes "query 0 5000: 1 series 1 samples 2 sources"
    ∷ codes "source g 0000000000000000000000000A"
    ∷ codes "source h 0000000000000000000000000A"
    ∷ codes "series {__name__=\"up\"} 1000:3ff0000000000000"
    ∷ [] ∷ []
    )
