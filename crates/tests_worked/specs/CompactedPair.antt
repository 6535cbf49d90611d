-- Two blocks of one series are compacted into one. The script is
--
--     gateway g
--     block 0000000000000000000000000A 1000 2000 {}
--     series {__name__="up"} 1000:3ff0000000000000
--     block 0000000000000000000000000B 1000 2000 {}
--     series {__name__="up"} 1000:3ff0000000000000
--     at 0
--     upload 0000000000000000000000000A
--     upload 0000000000000000000000000B
--     at 1800000
--     compact
--     at 1860000
--     sync g
use Rattle.std.proofs.Common.{arith, lit<}
use Rattle.std.specs.Prelude.{ℕ, zero, suc, ◌+◌, ◌<◌, pos, List, [], ◌∷◌, ◌++◌, codes, None, Some}
use Rattle.std.specs.List.Sorted.{IsNonDecreasingBy, IsStrictlyIncreasing}
use Rattle.block_keys.specs.declared.key.Key.TheVariants as key
use Rattle.block_meta.specs.MetaFields.{MarkFields}
use Rattle.block_meta.specs.declared.meta.Meta.{Meta}
use Rattle.moment_core.specs.Partitions.{all_times}
use Rattle.moment_core.specs.StandardRules.{standard_rules}
use Rattle.world_core.specs.declared.entry.Entry.{Entry}
use Rattle.shipper.specs.declared.upload.UploadEnd.TheVariants as shipped
use Rattle.sync_filters.specs.declared.found.Found.{Found}
use Rattle.meta_fetcher.specs.declared.view.View.{View}
use Rattle.meta_fetcher.specs.declared.sync.SyncEnd.TheVariants as fetched
use Rattle.compactor.specs.NewBlocks.{new_ulid}
use Rattle.compactor.specs.declared.compact_end.CompactEnd.TheVariants as compacting
use Rattle.vertical_merge.specs.Compacted.{parent_of}
use Rattle.script_core.specs.declared.script.Script.{Script}
use Rattle.script_workers.specs.declared.phase.Phase.{Phase}
use Rattle.script_workers.specs.declared.work.Work.{Work}
use Rattle.script_workers.specs.declared.work.Work.TheVariants.{Upload, Sync, Compact}
use Rattle.lifecycle_core.specs.Guarantees.{Answered}
use Rattle.lifecycle_core.specs.Holdings.{Use}
use Rattle.lifecycle_core.specs.Setting.{Setting, setting_of}
use Rattle.lifecycle_core.specs.Tasks.{End, compacted, synced, uploaded}
use Rattle.tests_worked.specs.Entries.{absent, clock, found, listed, stored}
use Rattle.tests_worked.specs.SideBySide as side
use Rattle.tests_worked.specs.SmallBlock as small
use Rattle.tests_worked.specs.SmallRuns as runs

abbrev pub b : ℕ
b = side.b

abbrev pub b_text : List ℕ
b_text = codes "0000000000000000000000000B"

unfoldable pub b_meta : List ℕ
b_meta = codes "{\"compaction\":{\"level\":1,\"sources\":[\"0000000000000000000000000B\"]},\"maxTime\":2000,\"minTime\":1000,\"stats\":{\"numChunks\":1,\"numSamples\":1,\"numSeries\":1},\"thanos\":{\"downsample\":{\"resolution\":0},\"files\":[{\"rel_path\":\"chunks/000001\",\"size_bytes\":26},{\"rel_path\":\"index\",\"size_bytes\":205}],\"labels\":{},\"segment_files\":[\"000001\"],\"source\":\"sidecar\",\"version\":1},\"ulid\":\"0000000000000000000000000B\",\"version\":1}"

-- ---- the script

-- the first phase, and one of one task more
abbrev pub uploads : Phase
uploads = record {
  line = 6;
  moment = record { ms = 0 };
  tasks =
      record { line = 7; work = Upload small.a None }
      ∷ record { line = 8; work = Upload b None }
      ∷ [];
}

abbrev pub phase : ℕ → ℕ → Work → Phase
phase line moment work = record {
  line = line;
  moment = record { ms = moment };
  tasks = record { line = line + 1; work = work } ∷ [];
}

-- with these phases behind the uploads
abbrev pub script_with : List Phase → Script
script_with phases = record {
  rules = standard_rules;
  gateways = codes "g" ∷ [];
  partitions = all_times ∷ [];
  blocks = small.block ∷ small.block_of b ∷ [];
  selectors = [];
  phases = uploads ∷ phases;
}

abbrev pub script : Script
script = script_with (phase 9 1_800_000 (Compact None) ∷ phase 11 1_860_000 (Sync 0) ∷ [])

abbrev pub setting : Setting
setting = setting_of script

-- ---- the new block: its ULID is of the last read's moment and number

abbrev pub n : ℕ
n = new_ulid 19 (record { ms = 1_800_009 })

abbrev pub n_text : List ℕ
n_text = codes "000001PXT9ZZZZZZZZZZZZ000K"

pub a_below_b : IsStrictlyIncreasing (small.a ∷ b ∷ [])
a_below_b zero more = lit< tt
a_below_b (suc k) more = absurd (omega (arith, more))

-- what it says of itself
abbrev pub said : Meta
said = record {
  ulid = n;
  min_time = pos 1000;
  max_time = pos 2000;
  series = 1;
  samples = 1;
  chunks = 1;
  level = 2;
  sources = small.a ∷ b ∷ [];
  parents = parent_of small.said ∷ parent_of (small.said_of b) ∷ [];
  labels = [];
  resolution = pos 0;
  source = codes "compactor";
  files = small.said.files;
  segment_files = small.said.segment_files;
  times = small.said.times;
  distinct = a_below_b;
}

unfoldable pub n_meta : List ℕ
n_meta = codes "{\"compaction\":{\"level\":2,\"parents\":[{\"maxTime\":2000,\"minTime\":1000,\"ulid\":\"0000000000000000000000000A\"},{\"maxTime\":2000,\"minTime\":1000,\"ulid\":\"0000000000000000000000000B\"}],\"sources\":[\"0000000000000000000000000A\",\"0000000000000000000000000B\"]},\"maxTime\":2000,\"minTime\":1000,\"stats\":{\"numChunks\":1,\"numSamples\":1,\"numSeries\":1},\"thanos\":{\"downsample\":{\"resolution\":0},\"files\":[{\"rel_path\":\"chunks/000001\",\"size_bytes\":26},{\"rel_path\":\"index\",\"size_bytes\":205}],\"labels\":{},\"segment_files\":[\"000001\"],\"source\":\"compactor\",\"version\":1},\"ulid\":\"000001PXT9ZZZZZZZZZZZZ000K\",\"version\":1}"

-- ---- the marks

abbrev pub marked : ℕ → MarkFields
marked ulid = record { id = ulid; deletion_time = 1_800; details = codes "compacted" }

unfoldable pub a_mark : List ℕ
a_mark = codes "{\"deletion_time\":1800,\"details\":\"compacted\",\"id\":\"0000000000000000000000000A\",\"version\":1}"

unfoldable pub b_mark : List ℕ
b_mark = codes "{\"deletion_time\":1800,\"details\":\"compacted\",\"id\":\"0000000000000000000000000B\",\"version\":1}"

-- ---- the run: seats 1 and 2 are those of the uploads, 3 is the compaction's, and 4 the gateway's

abbrev pub a_upload : List Entry
a_upload = runs.upload 2 1 1

abbrev pub b_upload : List Entry
b_upload = runs.upload_of b b_meta 6 2 5

-- the first entry, and the uploads
abbrev pub begun : List Entry
begun = clock 1 0 ∷ a_upload ++ b_upload

-- the compaction's sync
abbrev pub round_sync : List Entry
round_sync =
    listed 11 3 1_800_001 (small.a_text ∷ b_text ∷ [])
    ∷ absent 12 3 1_800_002 (key.Mark small.a)
    ∷ found 13 3 1_800_003 (key.Meta small.a) small.meta
    ∷ absent 14 3 1_800_004 (key.Mark b)
    ∷ found 15 3 1_800_005 (key.Meta b) b_meta
    ∷ []

-- its reads of both blocks
abbrev pub a_index : Entry
a_index = found 16 3 1_800_006 (key.Index small.a) small.index

abbrev pub reads : List Entry
reads =
    a_index
    ∷ found 17 3 1_800_007 (key.Segment small.a 1) small.segment
    ∷ found 18 3 1_800_008 (key.Index b) small.index
    ∷ found 19 3 1_800_009 (key.Segment b 1) small.segment
    ∷ []

-- the look at the new block's meta, the puts of its data, and of its meta
abbrev pub data_put : List Entry
data_put =
    absent 20 3 1_800_010 (key.Meta n)
    ∷ stored 21 3 1_800_011 (key.Segment n 1) small.segment
    ∷ stored 22 3 1_800_012 (key.Index n) small.index
    ∷ []

abbrev pub meta_put : Entry
meta_put = stored 23 3 1_800_013 (key.Meta n) n_meta

-- the looks at the marks of both, and their puts
abbrev pub look : Entry
look = absent 24 3 1_800_014 (key.Mark small.a)

abbrev pub mark_put : Entry
mark_put = stored 25 3 1_800_015 (key.Mark small.a) a_mark

abbrev pub marks : List Entry
marks =
    look
    ∷ mark_put
    ∷ absent 26 3 1_800_016 (key.Mark b)
    ∷ stored 27 3 1_800_017 (key.Mark b) b_mark
    ∷ []

abbrev pub compaction : List Entry
compaction = round_sync ++ (reads ++ (data_put ++ meta_put ∷ marks))

-- until the new block's meta was put, and until the first mark was
abbrev pub until_meta : List Entry
until_meta = begun ++ clock 10 1_800_000 ∷ round_sync ++ (reads ++ data_put)

abbrev pub until_mark : List Entry
until_mark = until_meta ++ meta_put ∷ look ∷ []

-- the gateway's sync, a minute later: both marks are young
abbrev pub sync : List Entry
sync =
    listed 29 4 1_860_001 (small.a_text ∷ b_text ∷ n_text ∷ [])
    ∷ found 30 4 1_860_002 (key.Mark small.a) a_mark
    ∷ found 31 4 1_860_003 (key.Meta small.a) small.meta
    ∷ found 32 4 1_860_004 (key.Mark b) b_mark
    ∷ found 33 4 1_860_005 (key.Meta b) b_meta
    ∷ absent 34 4 1_860_006 (key.Mark n)
    ∷ found 35 4 1_860_007 (key.Meta n) n_meta
    ∷ []

abbrev pub journal : List Entry
journal = begun ++ clock 10 1_800_000 ∷ compaction ++ clock 28 1_860_000 ∷ sync

-- ---- what was seen of the blocks

-- of one of both in a compaction's sync
abbrev pub unmarked : ℕ → ℕ → ℕ → Found
unmarked ulid mark_read meta_read = record {
  ulid = ulid;
  mark = None;
  mark_read = record { ms = mark_read };
  meta = small.said_of ulid;
  meta_read = record { ms = meta_read };
}

abbrev pub before_both : List Found
before_both = unmarked small.a 1_800_002 1_800_003 ∷ unmarked b 1_800_004 1_800_005 ∷ []

-- of one of both in the gateway's
abbrev pub seen : ℕ → ℕ → ℕ → Found
seen ulid mark_read meta_read = record {
  ulid = ulid;
  mark = Some (record { id = ulid; deletion_time = 1_800; details = codes "compacted"; early = omega arith });
  mark_read = record { ms = mark_read };
  meta = small.said_of ulid;
  meta_read = record { ms = meta_read };
}

abbrev pub behind_both : List Found
behind_both = seen small.a 1_860_002 1_860_003 ∷ seen b 1_860_004 1_860_005 ∷ []

abbrev pub new_seen : Found
new_seen = record {
  ulid = n;
  mark = None;
  mark_read = record { ms = 1_860_006 };
  meta = said;
  meta_read = record { ms = 1_860_007 };
}

-- a block, and another of a greater ULID, are in order
pub two_rise : (one other : Found) → one.ulid < other.ulid → IsNonDecreasingBy (λ (f : Found). f.ulid) (one ∷ other ∷ [])
two_rise one other below zero zero d le within = omega arith
two_rise one other below zero (suc zero) d le within = omega (arith, below)
two_rise one other below zero (suc (suc j)) d le within = absurd (omega (arith, within))
two_rise one other below (suc i) zero d le within = absurd (omega (arith, le))
two_rise one other below (suc zero) (suc zero) d le within = omega arith
two_rise one other below (suc zero) (suc (suc j)) d le within = absurd (omega (arith, within))
two_rise one other below (suc (suc i)) (suc j) d le within = absurd (omega (arith, le, within))

abbrev pub round_view : View
round_view = record {
  first = 11;
  begin = record { ms = 1_800_001 };
  end = record { ms = 1_800_005 };
  kept = before_both;
  covered = [];
  kept_rise = two_rise (unmarked small.a 1_800_002 1_800_003) (unmarked b 1_800_004 1_800_005) (lit< tt);
  covered_rise = runs.at_most_one None;
}

-- the gateway keeps the new block alone, which covers both
abbrev pub view : View
view = record {
  first = 29;
  begin = record { ms = 1_860_001 };
  end = record { ms = 1_860_007 };
  kept = new_seen ∷ [];
  covered = behind_both;
  kept_rise = runs.at_most_one (Some new_seen);
  covered_rise = two_rise (seen small.a 1_860_002 1_860_003) (seen b 1_860_004 1_860_005) (lit< tt);
}

abbrev pub used : Use
used = record { view = view; last = 35 }

abbrev pub upload_ends : List (List End)
upload_ends = (uploaded (shipped.Done 3) ∷ []) ∷ (uploaded (shipped.Done 3) ∷ []) ∷ []

abbrev pub ends : List (List (List End))
ends =
    upload_ends
    ∷ ((compacted (compacting.Done 0 1 0) ∷ []) ∷ [])
    ∷ ((synced (fetched.View view) ∷ []) ∷ [])
    ∷ []

-- an answer over that view that names these blocks
abbrev pub answered_with : List ℕ → Answered
answered_with sources = record {
  selector = [];
  named = record { gateway = 0; used = used; low = pos 0; high = pos 5000; sources = sources } ∷ [];
  samples = [];
}
