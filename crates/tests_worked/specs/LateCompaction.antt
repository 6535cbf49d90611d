-- A compaction reads for longer than it may, and a cleaning beside it deletes one of the blocks that it compacts. The script is
--
--     rule consistency-delay 12s
--     rule ignore-delay 12s
--     rule delete-delay 12s
--     rule partial-delay 12s
--     rule upload-limit 10s
--     rule tick 1s
--     rule retention 1s
--     block 0000000000000000000000000A 1000 2000 {}
--     series {__name__="up"} 1000:3ff0000000000000
--     block 0000000000000000000000000B 1000 2000 {}
--     series {__name__="up"} 1000:3ff0000000000000
--     at 0
--     upload 0000000000000000000000000A
--     upload 0000000000000000000000000B
--     at 8900
--     compact
--     at 15900
--     compact
--     clean
--
-- The first compaction comes too soon for the first block, and so it keeps the second one alone, which has expired, and marks it. The
-- other compaction begins while this mark is young, and keeps both.
use Rattle.std.proofs.Common.{arith, lit<}
use Rattle.std.specs.Prelude.{ℕ, ◌+◌, ◌*◌, List, [], ◌∷◌, ◌++◌, codes, None, Some}
use Rattle.block_keys.specs.declared.key.Key.TheVariants as key
use Rattle.block_meta.specs.MetaFields.{MarkFields}
use Rattle.moment_core.specs.declared.rules.Rules.{Rules}
use Rattle.moment_core.specs.declared.span.Span.{Span}
use Rattle.world_core.specs.declared.entry.Entry.{Entry}
use Rattle.world_core.specs.declared.op.Op.TheVariants as op
use Rattle.world_core.specs.declared.reply.Reply.TheVariants as reply
use Rattle.shipper.specs.declared.upload.UploadEnd.TheVariants as shipped
use Rattle.sync_filters.specs.declared.found.Found.{Found}
use Rattle.meta_fetcher.specs.declared.view.View.{View}
use Rattle.compactor.specs.declared.compact_end.CompactEnd.TheVariants as compacting
use Rattle.cleaner.specs.declared.clean.CleanEnd.TheVariants as cleaning
use Rattle.script_core.specs.declared.script.Script.{Script}
use Rattle.script_workers.specs.declared.phase.Phase.{Phase}
use Rattle.script_workers.specs.declared.task.Task.{Task}
use Rattle.script_workers.specs.declared.work.Work.TheVariants.{Upload, Compact, Clean}
use Rattle.lifecycle_core.specs.Setting.{Setting, setting_of}
use Rattle.lifecycle_core.specs.Tasks.{End, cleaned, compacted, uploaded}
use Rattle.tests_worked.specs.CompactedPair as pair
use Rattle.tests_worked.specs.Entries.{absent, clock, deleted, entry, found, listed, stored}
use Rattle.tests_worked.specs.SmallBlock as small
use Rattle.tests_worked.specs.SmallRuns as runs

abbrev pub b : ℕ
b = pair.b

abbrev pub seconds : ℕ → Span
seconds count = record { ms = 1_000 * count }

abbrev pub rules : Rules
rules = record {
  consistency = seconds 12;
  ignore = seconds 12;
  delete = seconds 12;
  partial = seconds 12;
  upload = seconds 10;
  tick = seconds 1;
  page_limit = 1_000;
  replicas = [];
  retention = Some (seconds 1);
}

abbrev pub upload_tasks : List Task
upload_tasks = record { line = 13; work = Upload small.a None } ∷ record { line = 14; work = Upload b None } ∷ []

abbrev pub beside_tasks : List Task
beside_tasks = record { line = 18; work = Compact None } ∷ record { line = 19; work = Clean None } ∷ []

abbrev pub uploads : Phase
uploads = record { line = 12; moment = record { ms = 0 }; tasks = upload_tasks }

abbrev pub marking : Phase
marking = pair.phase 15 8_900 (Compact None)

abbrev pub beside : Phase
beside = record { line = 17; moment = record { ms = 15_900 }; tasks = beside_tasks }

abbrev pub script : Script
script = record {
  rules = rules;
  gateways = [];
  partitions = [];
  blocks = small.block ∷ small.block_of b ∷ [];
  selectors = [];
  phases = uploads ∷ marking ∷ beside ∷ [];
}

abbrev pub setting : Setting
setting = setting_of script

-- ---- the mark

abbrev pub marked : MarkFields
marked = record { id = b; deletion_time = 14; details = codes "expired" }

unfoldable pub mark : List ℕ
mark = codes "{\"deletion_time\":14,\"details\":\"expired\",\"id\":\"0000000000000000000000000B\",\"version\":1}"

-- ---- the run: seats 1 and 2 are those of the uploads, 3 and 4 of the compactions, and 5 is the cleaning's

-- an upload whose operations take a second each
abbrev pub upload_of : ℕ → List ℕ → ℕ → ℕ → ℕ → List Entry
upload_of ulid meta seq seat moment =
    absent seq seat moment (key.Meta ulid)
    ∷ stored (seq + 1) seat (moment + 1_000) (key.Segment ulid 1) small.segment
    ∷ stored (seq + 2) seat (moment + 2_000) (key.Index ulid) small.index
    ∷ stored (seq + 3) seat (moment + 3_000) (key.Meta ulid) meta
    ∷ []

abbrev pub a_upload : List Entry
a_upload = upload_of small.a small.meta 2 1 1_000

abbrev pub b_upload : List Entry
b_upload = upload_of b pair.b_meta 6 2 5_000

abbrev pub both_names : List (List ℕ)
both_names = small.a_text ∷ pair.b_text ∷ []

abbrev pub first_sync : List Entry
first_sync =
    listed 11 3 9_900 both_names
    ∷ absent 12 3 10_900 (key.Mark small.a)
    ∷ found 13 3 11_900 (key.Meta small.a) small.meta
    ∷ absent 14 3 12_900 (key.Mark b)
    ∷ found 15 3 13_900 (key.Meta b) pair.b_meta
    ∷ []

abbrev pub put : Entry
put = stored 17 3 15_900 (key.Mark b) mark

abbrev pub first_compaction : List Entry
first_compaction = first_sync ++ absent 16 3 14_900 (key.Mark b) ∷ put ∷ []

abbrev pub second_sync : List Entry
second_sync =
    listed 19 4 16_900 both_names
    ∷ absent 20 4 17_900 (key.Mark small.a)
    ∷ found 21 4 18_900 (key.Meta small.a) small.meta
    ∷ found 22 4 19_900 (key.Mark b) mark
    ∷ found 23 4 20_900 (key.Meta b) pair.b_meta
    ∷ []

-- the first block's reads, which are in time
abbrev pub a_reads : List Entry
a_reads =
    found 24 4 21_900 (key.Index small.a) small.index
    ∷ found 25 4 22_900 (key.Segment small.a 1) small.segment
    ∷ []

-- the names of the second block's objects
abbrev pub objects : List (List ℕ)
objects = codes "chunks/000001" ∷ codes "deletion-mark.json" ∷ codes "index" ∷ codes "meta.json" ∷ []

abbrev pub deletion : List Entry
deletion =
    entry 30 5 27_900 (op.BlockPage b [] 1_000) (reply.Names objects)
    ∷ deleted 31 5 28_900 (key.Meta b)
    ∷ deleted 32 5 29_900 (key.Segment b 1)
    ∷ deleted 33 5 30_900 (key.Index b)
    ∷ deleted 34 5 31_900 (key.Mark b)
    ∷ []

abbrev pub cleaning_made : List Entry
cleaning_made =
    listed 26 5 23_900 both_names
    ∷ absent 27 5 24_900 (key.Mark small.a)
    ∷ found 28 5 25_900 (key.Meta small.a) small.meta
    ∷ found 29 5 26_900 (key.Mark b) mark
    ∷ deletion

-- the late read, of the second block's index, which is gone
abbrev pub missed : Entry
missed = absent 35 4 32_900 (key.Index b)

abbrev pub second_compaction : List Entry
second_compaction = second_sync ++ (a_reads ++ missed ∷ [])

abbrev pub both_made : List Entry
both_made = second_sync ++ (a_reads ++ (cleaning_made ++ missed ∷ []))

abbrev pub until_missed : List Entry
until_missed =
    clock 1 0 ∷ (a_upload ++ b_upload) ++ clock 10 8_900 ∷ first_compaction
    ++ clock 18 15_900 ∷ second_sync ++ (a_reads ++ cleaning_made)

abbrev pub journal : List Entry
journal = until_missed ++ missed ∷ []

-- ---- what the compactions' syncs saw

abbrev pub first_view : View
first_view = record {
  first = 11;
  begin = record { ms = 9_900 };
  end = record { ms = 13_900 };
  kept = pair.unmarked b 12_900 13_900 ∷ [];
  covered = [];
  kept_rise = runs.at_most_one (Some (pair.unmarked b 12_900 13_900));
  covered_rise = runs.at_most_one None;
}

abbrev pub marked_seen : Found
marked_seen = record {
  ulid = b;
  mark = Some (record { id = b; deletion_time = 14; details = codes "expired"; early = omega arith });
  mark_read = record { ms = 19_900 };
  meta = small.said_of b;
  meta_read = record { ms = 20_900 };
}

abbrev pub second_view : View
second_view = record {
  first = 19;
  begin = record { ms = 16_900 };
  end = record { ms = 20_900 };
  kept = pair.unmarked small.a 17_900 18_900 ∷ marked_seen ∷ [];
  covered = [];
  kept_rise = pair.two_rise (pair.unmarked small.a 17_900 18_900) marked_seen (lit< tt);
  covered_rise = runs.at_most_one None;
}

abbrev pub upload_ends : List (List End)
upload_ends = (uploaded (shipped.Done 3) ∷ []) ∷ (uploaded (shipped.Done 3) ∷ []) ∷ []

abbrev pub marking_ends : List (List End)
marking_ends = (compacted (compacting.Done 0 0 1) ∷ []) ∷ []

abbrev pub beside_ends : List (List End)
beside_ends = (compacted (compacting.Missing 35) ∷ []) ∷ (cleaned (cleaning.Done 1 0) ∷ []) ∷ []

abbrev pub ends : List (List (List End))
ends = upload_ends ∷ marking_ends ∷ beside_ends ∷ []
