-- Two blocks are uploaded while a gateway syncs, by workers of the same phase. The first block's upload was begun before the sync
-- lists the names of blocks, and is complete before the sync reads its meta. The other block's upload lies wholly between the
-- two. The script is
--
--     rule consistency-delay 0s
--     gateway g
--     block 0000000000000000000000000A 1000 2000 {}
--     series {__name__="up"} 1000:3ff0000000000000
--     block 0000000000000000000000000B 1000 2000 {}
--     series {__name__="up"} 1000:3ff0000000000000
--     at 0
--     sync g
--     query 0 5000 {}
--     upload 0000000000000000000000000A
--     upload 0000000000000000000000000B
use Rattle.std.specs.Prelude.{◌≤◌, ◌+◌, ℕ, pos, List, [], ◌∷◌, ◌++◌, All, Contains, codes, None, Some}
use Rattle.block_keys.specs.declared.key.Key.TheVariants as key
use Rattle.block_meta.specs.MetaFields.{fields_of}
use Rattle.block_meta.specs.MetaValue.{meta_text}
use Rattle.moment_core.specs.Partitions.{all_times}
use Rattle.moment_core.specs.StandardRules.{minutes, hours}
use Rattle.ulid_core.specs.Times.{time_of}
use Rattle.world_core.specs.declared.entry.Entry.{Entry}
use Rattle.shipper.specs.declared.upload.UploadEnd.TheVariants as shipped
use Rattle.meta_fetcher.specs.declared.view.View.{View}
use Rattle.meta_fetcher.specs.declared.sync.SyncEnd.TheVariants as fetched
use Rattle.store_calls.specs.declared.series_call.SeriesEnd.TheVariants as called
use Rattle.script_core.specs.declared.script.Script.{Script}
use Rattle.script_workers.specs.declared.task.Task.{Task}
use Rattle.script_workers.specs.declared.work.Work.TheVariants.{Upload, Sync, Query}
use Rattle.lifecycle_core.specs.Completed.{IsUploadedBefore}
use Rattle.lifecycle_core.specs.Guarantees.{Answered}
use Rattle.lifecycle_core.specs.Setting.{Setting, setting_of}
use Rattle.lifecycle_core.specs.Tasks.{End, uploaded, synced, answered}
use Rattle.lifecycle_core.specs.Holdings.{Use}
use Rattle.tests_worked.specs.SmallBlock as small
use Rattle.tests_worked.specs.SmallRuns as runs
use Rattle.tests_worked.specs.Entries.{clock, stored, found, absent, listed}

-- the other block, and the text of its meta
abbrev pub b : ℕ
b = 11

unfoldable pub other_meta : List ℕ
other_meta = meta_text (fields_of (small.said_of b))

abbrev pub tasks : List Task
tasks =
    record { line = 8; work = Sync 0 }
    ∷ record { line = 9; work = Query (pos 0) (pos 5000) 0 }
    ∷ record { line = 10; work = Upload small.a None }
    ∷ record { line = 11; work = Upload b None }
    ∷ []

abbrev pub script : Script
script = record {
  rules = record {
    consistency = minutes 0;
    ignore = hours 24;
    delete = hours 48;
    partial = hours 48;
    upload = minutes 30;
    tick = record { ms = 1 };
    page_limit = 1_000;
    replicas = [];
    retention = None;
  };
  gateways = codes "g" ∷ [];
  partitions = all_times ∷ [];
  blocks = small.block ∷ small.block_of b ∷ [];
  selectors = [] ∷ [];
  phases = record { line = 7; moment = record { ms = 0 }; tasks = tasks } ∷ [];
}

abbrev pub setting : Setting
setting = setting_of script

-- ---- the run: the gateway has seat 1, the uploads have seats 2 and 3

abbrev pub begun : List Entry
begun =
    absent 2 2 1 (key.Meta small.a)
    ∷ stored 3 2 2 (key.Segment small.a 1) small.segment
    ∷ listed 4 1 3 (small.a_text ∷ [])
    ∷ []

abbrev pub other_upload : List Entry
other_upload = runs.upload_of b other_meta 5 3 4

abbrev pub completed : List Entry
completed =
    stored 9 2 8 (key.Index small.a) small.index
    ∷ stored 10 2 9 (key.Meta small.a) small.meta
    ∷ absent 11 1 10 (key.Mark small.a)
    ∷ found 12 1 11 (key.Meta small.a) small.meta
    ∷ []

abbrev pub query : List Entry
query = runs.query 13 1 12

abbrev pub made : List Entry
made = begun ++ other_upload ++ completed ++ query

abbrev pub journal : List Entry
journal = clock 1 0 ∷ made

abbrev pub view : View
view = runs.view_of 4 3 11 (Some (small.found 10 11))

abbrev pub used : Use
used = record { view = view; last = 12 }

abbrev pub ends : List (List (List End))
ends =
    (
    (synced (fetched.View view)
    ∷ answered used (called.Answer (small.up ∷ []) (small.a ∷ [])) ∷ [])
    ∷ (uploaded (shipped.Done 3) ∷ [])
    ∷ (uploaded (shipped.Done 3) ∷ [])
    ∷ []
    )
    ∷ []

-- the answered query
abbrev pub asked : Answered
asked = record {
  selector = [];
  named = record { gateway = 0; used = used; low = pos 0; high = pos 5000; sources = small.a ∷ [] } ∷ [];
  samples = small.triple ∷ [];
}

-- ---- what is not guaranteed

-- each block that the answer names was complete before the sync began
abbrev pub NamesEarlyUploads : Type 0
NamesEarlyUploads =
    All (λ one. All (λ ulid. IsUploadedBefore setting journal ulid one.used.view.first) one.sources)
    asked.named

-- it names each block, old enough, that was complete before the sync ended
abbrev pub NamesLateUploads : Type 0
NamesLateUploads =
    All (λ one. (ulid : ℕ) → IsUploadedBefore setting journal ulid one.used.last
    → time_of ulid + script.rules.consistency.ms ≤ one.used.view.begin.ms → Contains one.sources ulid) asked.named
