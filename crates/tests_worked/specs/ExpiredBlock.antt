-- A block expires, is marked for that, and is deleted while a gateway still uses a view that keeps it. The script is
--
--     rule retention 1s
--     gateway g
--     block 0000000000000000000000000A 1000 2000 {}
--     series {__name__="up"} 1000:3ff0000000000000
--     at 0
--     upload 0000000000000000000000000A
--     at 1800000
--     sync g
--     at 1860000
--     compact
--     at 180000000
--     clean
--     at 180000100
--     query 0 5000 up
use Rattle.std.specs.Prelude.{ℕ, ◌+◌, pos, List, [], ◌∷◌, ◌++◌, codes, None, Some}
use Rattle.block_keys.specs.declared.key.Key.TheVariants as key
use Rattle.block_meta.specs.MetaFields.{MarkFields}
use Rattle.moment_core.specs.Partitions.{all_times}
use Rattle.moment_core.specs.StandardRules.{minutes, hours}
use Rattle.moment_core.specs.declared.rules.Rules.{Rules}
use Rattle.moment_core.specs.declared.span.Span.{Span}
use Rattle.world_core.specs.declared.entry.Entry.{Entry}
use Rattle.world_core.specs.declared.op.Op.TheVariants as op
use Rattle.world_core.specs.declared.reply.Reply.TheVariants as reply
use Rattle.shipper.specs.declared.upload.UploadEnd.TheVariants as shipped
use Rattle.meta_fetcher.specs.declared.view.View.{View}
use Rattle.meta_fetcher.specs.declared.sync.SyncEnd.TheVariants as fetched
use Rattle.compactor.specs.declared.compact_end.CompactEnd.TheVariants as compacting
use Rattle.cleaner.specs.declared.clean.CleanEnd.TheVariants as cleaning
use Rattle.store_calls.specs.declared.series_call.SeriesEnd.TheVariants as called
use Rattle.script_core.specs.declared.script.Script.{Script}
use Rattle.script_workers.specs.declared.phase.Phase.{Phase}
use Rattle.script_workers.specs.declared.work.Work.{Work}
use Rattle.script_workers.specs.declared.work.Work.TheVariants.{Upload, Sync, Compact, Clean, Query}
use Rattle.lifecycle_core.specs.Guarantees.{Answered}
use Rattle.lifecycle_core.specs.Holdings.{Use}
use Rattle.lifecycle_core.specs.Setting.{Setting, setting_of}
use Rattle.lifecycle_core.specs.Tasks.{End, uploaded, synced, compacted, cleaned, answered}
use Rattle.tests_worked.specs.Entries.{absent, clock, deleted, entry, found, listed, stored}
use Rattle.tests_worked.specs.OneBlock as one
use Rattle.tests_worked.specs.SmallBlock as small
use Rattle.tests_worked.specs.SmallRuns as runs

-- the standard rules, with a retention of a second and this ignore delay
abbrev pub rules_with : Span → Rules
rules_with ignore = record {
  consistency = minutes 30;
  ignore = ignore;
  delete = hours 48;
  partial = hours 48;
  upload = minutes 30;
  tick = record { ms = 1 };
  page_limit = 1_000;
  replicas = [];
  retention = Some (record { ms = 1_000 });
}

-- a phase of one task
abbrev pub phase : ℕ → ℕ → Work → Phase
phase line moment work = record {
  line = line;
  moment = record { ms = moment };
  tasks = record { line = line + 1; work = work } ∷ [];
}

abbrev pub script : Script
script = record {
  rules = rules_with (hours 24);
  gateways = codes "g" ∷ [];
  partitions = all_times ∷ [];
  blocks = small.block ∷ [];
  selectors = one.selector ∷ [];
  phases =
      phase 5 0 (Upload small.a None)
      ∷ phase 7 1_800_000 (Sync 0)
      ∷ phase 9 1_860_000 (Compact None)
      ∷ phase 11 180_000_000 (Clean None)
      ∷ phase 13 180_000_100 (Query (pos 0) (pos 5000) 0)
      ∷ [];
}

abbrev pub setting : Setting
setting = setting_of script

-- ---- the mark

abbrev pub marked : MarkFields
marked = record { id = small.a; deletion_time = 1_860; details = codes "expired" }

unfoldable pub mark : List ℕ
mark = codes "{\"deletion_time\":1860,\"details\":\"expired\",\"id\":\"0000000000000000000000000A\",\"version\":1}"

-- ---- the run: seats 1, 3 and 4 are those of the upload, the compaction and the cleaning, and 2 and 5 the gateway's

abbrev pub upload : List Entry
upload = runs.upload 2 1 1

abbrev pub sync : List Entry
sync = runs.sync 7 2 1_800_001

-- the look that finds no mark, and the put of one
abbrev pub look : Entry
look = absent 14 3 1_860_004 (key.Mark small.a)

abbrev pub put : Entry
put = stored 15 3 1_860_005 (key.Mark small.a) mark

abbrev pub compaction : List Entry
compaction = runs.sync 11 3 1_860_001 ++ look ∷ put ∷ []

-- the read of the mark, by which the block is deleted
abbrev pub mark_read : Entry
mark_read = found 18 4 180_000_002 (key.Mark small.a) mark

-- the names of the block's objects
abbrev pub objects : List (List ℕ)
objects = codes "chunks/000001" ∷ codes "deletion-mark.json" ∷ codes "index" ∷ codes "meta.json" ∷ []

abbrev pub deletes : List Entry
deletes =
    deleted 20 4 180_000_004 (key.Meta small.a)
    ∷ deleted 21 4 180_000_005 (key.Segment small.a 1)
    ∷ deleted 22 4 180_000_006 (key.Index small.a)
    ∷ deleted 23 4 180_000_007 (key.Mark small.a)
    ∷ []

abbrev pub block_page : Entry
block_page = entry 19 4 180_000_003 (op.BlockPage small.a [] 1_000) (reply.Names objects)

abbrev pub deletion : List Entry
deletion = block_page ∷ deletes

abbrev pub cleaning_page : Entry
cleaning_page = listed 17 4 180_000_001 (small.a_text ∷ [])

abbrev pub cleaning_made : List Entry
cleaning_made = cleaning_page ∷ mark_read ∷ deletion

-- the query's one read, of the index's table of contents, which is gone
abbrev pub read : Entry
read = entry 25 5 180_000_101 (op.GetRange (key.Index small.a) 153 52) reply.Absent

-- what was made until the mark was put, then until it was read, and until the query
abbrev pub until_put : List Entry
until_put = clock 1 0 ∷ upload ++ clock 6 1_800_000 ∷ sync ++ clock 10 1_860_000 ∷ runs.sync 11 3 1_860_001 ++ look ∷ []

abbrev pub until_read : List Entry
until_read = until_put ++ put ∷ clock 16 180_000_000 ∷ cleaning_page ∷ []

abbrev pub until_query : List Entry
until_query = until_read ++ mark_read ∷ deletion ++ clock 24 180_000_100 ∷ []

abbrev pub journal : List Entry
journal = until_query ++ read ∷ []

abbrev pub view : View
view = runs.view 7 1_800_001 (Some (runs.seen 1_800_001))

abbrev pub used : Use
used = record { view = view; last = 9 }

-- to what the worker of each phase came
abbrev pub ends : List (List (List End))
ends =
    ((uploaded (shipped.Done 3) ∷ []) ∷ [])
    ∷ ((synced (fetched.View view) ∷ []) ∷ [])
    ∷ ((compacted (compacting.Done 0 0 1) ∷ []) ∷ [])
    ∷ ((cleaned (cleaning.Done 1 0) ∷ []) ∷ [])
    ∷ ((answered used (called.Missing 25) ∷ []) ∷ [])
    ∷ []

-- an answer over that view that names no block
abbrev pub nothing_answered : Answered
nothing_answered = record {
  selector = one.selector;
  named = record { gateway = 0; used = used; low = pos 0; high = pos 5000; sources = [] } ∷ [];
  samples = [];
}

-- ---- where marks have to land at once

-- A cleaning stands in the place of the gateway's sync, and makes the same entries; and a mark has to land within four milliseconds of
-- the second that it tells.
abbrev pub hasty_script : Script
hasty_script = record {
  rules = rules_with (record { ms = 4 });
  gateways = [];
  partitions = [];
  blocks = small.block ∷ [];
  selectors = [];
  phases =
      phase 4 0 (Upload small.a None)
      ∷ phase 6 1_800_000 (Clean None)
      ∷ phase 8 1_860_000 (Compact None)
      ∷ [];
}

abbrev pub hasty : Setting
hasty = setting_of hasty_script

abbrev pub hasty_journal : List Entry
hasty_journal = until_put ++ put ∷ []

abbrev pub hasty_ends : List (List (List End))
hasty_ends =
    ((uploaded (shipped.Done 3) ∷ []) ∷ [])
    ∷ ((cleaned (cleaning.Done 0 0) ∷ []) ∷ [])
    ∷ ((compacted (compacting.Done 0 0 1) ∷ []) ∷ [])
    ∷ []
