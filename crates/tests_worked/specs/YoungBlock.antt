-- A block is not shown before it has been in the bucket for the consistency delay, which is half an hour. In the first phase a
-- sync, an upload and a query stand, in the second one a sync and a query.
use Rattle.std.specs.Prelude.{◌≤◌, ℕ, pos, All, Contains, List, [], ◌∷◌, ◌++◌, codes, None, Some}
use Rattle.std.specs.List.{join_with_byte}
use Rattle.moment_core.specs.Partitions.{all_times}
use Rattle.moment_core.specs.StandardRules.{standard_rules}
use Rattle.world_core.specs.declared.entry.Entry.{Entry}
use Rattle.shipper.specs.declared.upload.UploadEnd.TheVariants as shipped
use Rattle.meta_fetcher.specs.declared.sync.SyncEnd.TheVariants as fetched
use Rattle.store_calls.specs.declared.series_call.SeriesEnd.TheVariants as called
use Rattle.script_core.specs.declared.script.Script.{Script}
use Rattle.script_workers.specs.declared.work.Work.TheVariants.{Upload, Sync, Query}
use Rattle.lifecycle_core.specs.Setting.{Setting, setting_of}
use Rattle.lifecycle_core.specs.Tasks.{End, uploaded, synced, answered}
use Rattle.lifecycle_core.specs.Holdings.{Use}
use Rattle.lifecycle_core.specs.Completed.{IsUploadedBefore}
use Rattle.ulid_core.specs.Times.{time_of}
use Rattle.lifecycle_core.specs.Guarantees.{Answered}
use Rattle.tests_worked.specs.SmallBlock as small
use Rattle.tests_worked.specs.SmallRuns as runs
use Rattle.tests_worked.specs.Entries.{clock, listed}

-- the text of the script
unfoldable pub text : List ℕ
text = join_with_byte 10 (
    codes "# A block is not shown before it has been in the bucket for the consistency delay (half an hour)."
    ∷ codes "gateway g"
    ∷ codes "block 0000000000000000000000000A 1000 2000 {}"
    ∷ codes "series {__name__=\"up\"} 1000:3ff0000000000000"
    ∷ codes "at 0"
    ∷ codes "sync g"
    ∷ codes "upload 0000000000000000000000000A"
    ∷ codes "query 0 5000 {}"
    ∷ codes "at 1800000"
    ∷ codes "sync g"
    ∷ codes "query 0 5000 {}"
    ∷ [] ∷ []
    )

abbrev pub script : Script
script = record {
  rules = standard_rules;
  gateways = codes "g" ∷ [];
  partitions = all_times ∷ [];
  blocks = small.block ∷ [];
  selectors = [] ∷ [] ∷ [];
  phases =
      record {
        line = 5;
        moment = record { ms = 0 };
        tasks =
            record { line = 6; work = Sync 0 }
            ∷ record { line = 7; work = Upload small.a None }
            ∷ record { line = 8; work = Query (pos 0) (pos 5000) 0 }
            ∷ [];
      }
      ∷ record {
        line = 9;
        moment = record { ms = 1_800_000 };
        tasks =
            record { line = 10; work = Sync 0 }
            ∷ record { line = 11; work = Query (pos 0) (pos 5000) 1 }
            ∷ [];
      }
      ∷ [];
}

abbrev pub setting : Setting
setting = setting_of script

-- how a query's line ends that answers nothing, and one that answers the block
abbrev pub no_answer : Use → End
no_answer used = answered used (called.Answer [] [])

abbrev pub block_answer : Use → End
block_answer used = answered used (called.Answer (small.up ∷ []) (small.a ∷ []))

-- to what the workers came, where the syncs gave these views: in the first phase the gateway's and then the upload's
abbrev pub ends_by : Use → Use → List (List (List End))
ends_by early late =
    ((synced (fetched.View early.view) ∷ no_answer early ∷ []) ∷ (uploaded (shipped.Done 3) ∷ [])
    ∷ [])
    ∷ ((synced (fetched.View late.view) ∷ block_answer late ∷ []) ∷ [])
    ∷ []

-- ---- a run in the order of the lines: the first sync finds nothing

abbrev pub first_journal : List Entry
first_journal = listed 2 1 1 [] ∷ runs.upload 3 2 2

abbrev pub second_journal : List Entry
second_journal = runs.sync 8 3 1_800_001 ++ runs.query 11 3 1_800_004

abbrev pub journal : List Entry
journal = clock 1 0 ∷ first_journal ++ clock 7 1_800_000 ∷ second_journal

abbrev pub early : Use
early = record { view = runs.view_of 2 1 1 None; last = 2 }

abbrev pub late : Use
late = record { view = runs.view 8 1_800_001 (Some (runs.seen 1_800_001)); last = 10 }

abbrev pub ends : List (List (List End))
ends = ends_by early late

-- ---- a run where the upload comes first: the first sync finds the block, and does not keep it

abbrev pub first_journal_turned : List Entry
first_journal_turned = runs.upload 2 2 1 ++ runs.sync 6 1 5

abbrev pub second_journal_turned : List Entry
second_journal_turned = runs.sync 10 3 1_800_001 ++ runs.query 13 3 1_800_004

abbrev pub journal_turned : List Entry
journal_turned = clock 1 0 ∷ first_journal_turned ++ clock 9 1_800_000 ∷ second_journal_turned

abbrev pub early_turned : Use
early_turned = record { view = runs.view 6 5 None; last = 8 }

abbrev pub late_turned : Use
late_turned = record { view = runs.view 10 1_800_001 (Some (runs.seen 1_800_001)); last = 12 }

abbrev pub ends_turned : List (List (List End))
ends_turned = ends_by early_turned late_turned

-- ---- what both print

unfoldable pub report : List ℕ
report = join_with_byte 10 (
    codes "sync g: 0 blocks"
    ∷ codes "upload 0000000000000000000000000A: ok 3 objects"
    ∷ codes "query 0 5000: 0 series 0 samples 0 sources"
    ∷ codes "sync g: 1 blocks"
    ∷ codes "query 0 5000: 1 series 1 samples 1 sources"
    ∷ codes "source 0000000000000000000000000A"
    ∷ codes "series {__name__=\"up\"} 1000:3ff0000000000000"
    ∷ [] ∷ []
    )

-- with the upload first, the block was complete before the first sync began, however young
abbrev pub IsUploadedEarly : Use → ℕ → Type 0
IsUploadedEarly used ulid =
    IsUploadedBefore setting journal_turned ulid used.view.first
    × (time_of ulid ≤ used.view.begin.ms)

-- each gateway names each block of which this holds
abbrev pub NamesAll : (Use → ℕ → Type 0) → Answered → Type 0
NamesAll Is query = All (λ one. (ulid : ℕ) → Is one.used ulid → Contains one.sources ulid) query.named

-- the two answered queries
abbrev pub first_asked : Use → Answered
first_asked used = record {
  selector = [];
  named = record { gateway = 0; used = used; low = pos 0; high = pos 5000; sources = [] } ∷ [];
  samples = [];
}

abbrev pub second_asked : Use → Answered
second_asked used = record {
  selector = [];
  named = record { gateway = 0; used = used; low = pos 0; high = pos 5000; sources = small.a ∷ [] } ∷ [];
  samples = small.triple ∷ [];
}
