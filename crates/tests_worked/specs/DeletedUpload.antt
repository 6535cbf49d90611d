-- A block is uploaded past its limit, and a cleaning beside the upload takes it for a partial. The script is
--
--     rule partial-delay 30m
--     gateway g
--     block 0000000000000000000000000A 1000 2000 {}
--     series {__name__="up"} 1000:3ff0000000000000
--     at 1800000
--     upload 0000000000000000000000000A
--     clean
--     at 1860000
--     sync g
--     at 1860100
--     query 0 5000 up
use Rattle.std.specs.Prelude.{ℕ, pos, List, [], ◌∷◌, ◌++◌, codes, None, Some}
use Rattle.block_keys.specs.declared.key.Key.TheVariants as key
use Rattle.moment_core.specs.Partitions.{all_times}
use Rattle.moment_core.specs.StandardRules.{minutes, hours}
use Rattle.moment_core.specs.declared.rules.Rules.{Rules}
use Rattle.world_core.specs.declared.entry.Entry.{Entry}
use Rattle.world_core.specs.declared.op.Op.TheVariants as op
use Rattle.world_core.specs.declared.reply.Reply.TheVariants as reply
use Rattle.shipper.specs.declared.upload.UploadEnd.TheVariants as shipped
use Rattle.meta_fetcher.specs.declared.view.View.{View}
use Rattle.meta_fetcher.specs.declared.sync.SyncEnd.TheVariants as fetched
use Rattle.cleaner.specs.declared.clean.CleanEnd.TheVariants as cleaning
use Rattle.store_calls.specs.declared.series_call.SeriesEnd.TheVariants as called
use Rattle.script_core.specs.declared.script.Script.{Script}
use Rattle.script_workers.specs.declared.phase.Phase.{Phase}
use Rattle.script_workers.specs.declared.task.Task.{Task}
use Rattle.script_workers.specs.declared.work.Work.TheVariants.{Upload, Sync, Clean, Query}
use Rattle.lifecycle_core.specs.Holdings.{Use}
use Rattle.lifecycle_core.specs.Setting.{Setting, setting_of}
use Rattle.lifecycle_core.specs.Tasks.{End, uploaded, synced, cleaned, answered}
use Rattle.tests_worked.specs.CompactedPair.{phase}
use Rattle.tests_worked.specs.Entries.{absent, clock, deleted, entry, listed, stored}
use Rattle.tests_worked.specs.OneBlock as one
use Rattle.tests_worked.specs.SmallBlock as small
use Rattle.tests_worked.specs.SmallRuns as runs

-- the standard rules, with a partial delay that is no longer than the upload limit
abbrev pub rules : Rules
rules = record {
  consistency = minutes 30;
  ignore = hours 24;
  delete = hours 48;
  partial = minutes 30;
  upload = minutes 30;
  tick = record { ms = 1 };
  page_limit = 1_000;
  replicas = [];
  retention = None;
}

abbrev pub tasks : List Task
tasks = record { line = 6; work = Upload small.a None } ∷ record { line = 7; work = Clean None } ∷ []

abbrev pub beside : Phase
beside = record { line = 5; moment = record { ms = 1_800_000 }; tasks = tasks }

abbrev pub syncing : Phase
syncing = phase 8 1_860_000 (Sync 0)

abbrev pub asking : Phase
asking = phase 10 1_860_100 (Query (pos 0) (pos 5000) 0)

abbrev pub script : Script
script = record {
  rules = rules;
  gateways = codes "g" ∷ [];
  partitions = all_times ∷ [];
  blocks = small.block ∷ [];
  selectors = one.selector ∷ [];
  phases = beside ∷ syncing ∷ asking ∷ [];
}

abbrev pub setting : Setting
setting = setting_of script

-- ---- the run: seats 1 and 2 are those of the upload and the cleaning, 3 and 4 the gateway's

-- the first late put
abbrev pub segment_put : Entry
segment_put = stored 3 1 1_800_002 (key.Segment small.a 1) small.segment

abbrev pub data_put : List Entry
data_put = absent 2 1 1_800_001 (key.Meta small.a) ∷ segment_put ∷ stored 4 1 1_800_003 (key.Index small.a) small.index ∷ []

abbrev pub meta_put : Entry
meta_put = stored 13 1 1_800_012 (key.Meta small.a) small.meta

abbrev pub upload : List Entry
upload = data_put ++ meta_put ∷ []

-- the names of the objects that were put until the cleaning lists them
abbrev pub objects : List (List ℕ)
objects = codes "chunks/000001" ∷ codes "index" ∷ []

abbrev pub deletion : List Entry
deletion =
    entry 8 2 1_800_007 (op.BlockPage small.a [] 1_000) (reply.Names objects)
    ∷ deleted 9 2 1_800_008 (key.Meta small.a)
    ∷ deleted 10 2 1_800_009 (key.Segment small.a 1)
    ∷ deleted 11 2 1_800_010 (key.Index small.a)
    ∷ deleted 12 2 1_800_011 (key.Mark small.a)
    ∷ []

abbrev pub cleaning_made : List Entry
cleaning_made =
    listed 5 2 1_800_004 (small.a_text ∷ [])
    ∷ absent 6 2 1_800_005 (key.Mark small.a)
    ∷ absent 7 2 1_800_006 (key.Meta small.a)
    ∷ deletion

abbrev pub both_made : List Entry
both_made = data_put ++ (cleaning_made ++ meta_put ∷ [])

abbrev pub sync : List Entry
sync = runs.sync 15 3 1_860_001

-- the query's one read, of the index's table of contents, which is gone
abbrev pub read : Entry
read = entry 19 4 1_860_101 (op.GetRange (key.Index small.a) 153 52) reply.Absent

abbrev pub journal : List Entry
journal = clock 1 1_800_000 ∷ both_made ++ clock 14 1_860_000 ∷ sync ++ clock 18 1_860_100 ∷ read ∷ []

abbrev pub view : View
view = runs.view 15 1_860_001 (Some (runs.seen 1_860_001))

abbrev pub used : Use
used = record { view = view; last = 17 }

abbrev pub beside_ends : List (List End)
beside_ends = (uploaded (shipped.Done 3) ∷ []) ∷ (cleaned (cleaning.Done 0 1) ∷ []) ∷ []

abbrev pub syncing_ends : List (List End)
syncing_ends = (synced (fetched.View view) ∷ []) ∷ []

abbrev pub asking_ends : List (List End)
asking_ends = (answered used (called.Missing 19) ∷ []) ∷ []

abbrev pub ends : List (List (List End))
ends = beside_ends ∷ syncing_ends ∷ asking_ends ∷ []
