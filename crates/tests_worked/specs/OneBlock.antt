-- One block, one gateway: the block is uploaded, half an hour passes, the gateway syncs and answers.
use Rattle.std.specs.Prelude.{ℕ, pos, List, [], ◌∷◌, ◌++◌, codes, None, Some}
use Rattle.std.specs.List.{join_with_byte}
use Rattle.moment_core.specs.Partitions.{all_times}
use Rattle.moment_core.specs.StandardRules.{standard_rules}
use Rattle.world_core.specs.declared.entry.Entry.{Entry}
use Rattle.shipper.specs.declared.upload.UploadEnd.TheVariants as shipped
use Rattle.meta_fetcher.specs.declared.view.View.{View}
use Rattle.meta_fetcher.specs.declared.sync.SyncEnd.TheVariants as fetched
use Rattle.store_calls.specs.declared.series_call.SeriesEnd.TheVariants as called
use Rattle.matchers.specs.declared.matcher.Matcher.{Matcher}
use Rattle.matchers.specs.declared.condition.Condition.TheVariants.{Equal}
use Rattle.script_core.specs.declared.script.Script.{Script}
use Rattle.script_workers.specs.declared.work.Work.TheVariants.{Upload, Sync, Query}
use Rattle.lifecycle_core.specs.Setting.{Setting, setting_of}
use Rattle.lifecycle_core.specs.Tasks.{End, uploaded, synced, answered}
use Rattle.lifecycle_core.specs.Holdings.{Use}
use Rattle.lifecycle_core.specs.Guarantees.{Answered}
use Rattle.tests_worked.specs.SmallBlock as small
use Rattle.tests_worked.specs.SmallRuns as runs
use Rattle.tests_worked.specs.Entries.{clock}

-- the text of the script
unfoldable pub text : List ℕ
text = join_with_byte 10 (
    codes "# One block, one gateway: the block is uploaded, half an hour passes, the gateway syncs and answers."
    ∷ codes "gateway g"
    ∷ codes "block 0000000000000000000000000A 1000 2000 {}"
    ∷ codes "series {__name__=\"up\"} 1000:3ff0000000000000"
    ∷ codes "at 0"
    ∷ codes "upload 0000000000000000000000000A"
    ∷ codes "at 1800000"
    ∷ codes "sync g"
    ∷ codes "query 0 5000 up"
    ∷ [] ∷ []
    )

-- the metric `up`
abbrev pub selector : List Matcher
selector = record { name = codes "__name__"; condition = Equal (codes "up") } ∷ []

abbrev pub script : Script
script = record {
  rules = standard_rules;
  gateways = codes "g" ∷ [];
  partitions = all_times ∷ [];
  blocks = small.block ∷ [];
  selectors = selector ∷ [];
  phases =
      record {
        line = 5;
        moment = record { ms = 0 };
        tasks =
            record { line = 6; work = Upload small.a None }
            ∷ [];
      }
      ∷ record {
        line = 7;
        moment = record { ms = 1_800_000 };
        tasks =
            record { line = 8; work = Sync 0 }
            ∷ record { line = 9; work = Query (pos 0) (pos 5000) 0 }
            ∷ [];
      }
      ∷ [];
}

abbrev pub setting : Setting
setting = setting_of script

-- ---- the run

-- The upload is done at seat 1, the sync and the query at seat 2.
abbrev pub upload : List Entry
upload = runs.upload 2 1 1

abbrev pub sync : List Entry
sync = runs.sync 7 2 1_800_001

abbrev pub query : List Entry
query = runs.query 10 2 1_800_004

abbrev pub journal : List Entry
journal = clock 1 0 ∷ upload ++ clock 6 1_800_000 ∷ sync ++ query

abbrev pub view : View
view = runs.view 7 1_800_001 (Some (runs.seen 1_800_001))

abbrev pub used : Use
used = record { view = view; last = 9 }

-- to what the workers came, by phase, worker and task
abbrev pub ends : List (List (List End))
ends =
    ((uploaded (shipped.Done 3) ∷ []) ∷ [])
    ∷ ((synced (fetched.View view)
    ∷ answered used (called.Answer (small.up ∷ []) (small.a ∷ [])) ∷ []) ∷ [])
    ∷ []

-- ---- what it prints

unfoldable pub report : List ℕ
report = join_with_byte 10 (
    codes "upload 0000000000000000000000000A: ok 3 objects"
    ∷ codes "sync g: 1 blocks"
    ∷ codes "query 0 5000: 1 series 1 samples 1 sources"
    ∷ codes "source 0000000000000000000000000A"
    ∷ codes "series {__name__=\"up\"} 1000:3ff0000000000000"
    ∷ [] ∷ []
    )

-- the answered query
abbrev pub asked : Answered
asked = record {
  selector = selector;
  named = record { gateway = 0; used = used; low = pos 0; high = pos 5000; sources = small.a ∷ [] } ∷ [];
  samples = small.triple ∷ [];
}
