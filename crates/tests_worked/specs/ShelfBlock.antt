-- A block of the shelf, whose files are the small ones, with a meta that says nothing of shipping. The script is
--
--     shelf 0000000000000000000000000A {}
--     at 0
--     upload 0000000000000000000000000A
use Rattle.std.specs.Prelude.{pos, List, [], ◌∷◌, None}
use Rattle.std.proofs.Common.{lit≤}
use Rattle.block_meta.specs.declared.meta.Meta.{Meta}
use Rattle.block_meta.specs.declared.block_files.BlockFiles.{BlockFiles}
use Rattle.moment_core.specs.StandardRules.{standard_rules}
use Rattle.world_core.specs.declared.entry.Entry.{Entry}
use Rattle.shipper.specs.declared.upload.UploadEnd.TheVariants as shipped
use Rattle.script_core.specs.declared.block.Block.{Block}
use Rattle.script_core.specs.declared.body.Body.TheVariants.{OnShelf}
use Rattle.script_core.specs.declared.script.Script.{Script}
use Rattle.script_workers.specs.declared.work.Work.TheVariants.{Upload}
use Rattle.lifecycle_core.specs.Guarantees.{Answered}
use Rattle.lifecycle_core.specs.Holdings.{Use}
use Rattle.lifecycle_core.specs.Setting.{Setting, holding, setting_of}
use Rattle.lifecycle_core.specs.Tasks.{End, refused, uploaded}
use Rattle.tests_worked.specs.Entries.{clock}
use Rattle.tests_worked.specs.SmallBlock as small
use Rattle.tests_worked.specs.SmallRuns as runs

abbrev pub block : Block
block = record { ulid = small.a; labels = []; body = OnShelf }

abbrev pub script : Script
script = record {
  rules = standard_rules;
  gateways = [];
  partitions = [];
  blocks = block ∷ [];
  selectors = [];
  phases = record {
    line = 2;
    moment = record { ms = 0 };
    tasks =
        record { line = 3; work = Upload small.a None }
        ∷ [];
  } ∷ [];
}

-- ---- the shelf

-- the meta that stands there
abbrev pub kept : Meta
kept = record {
  ulid = small.a;
  min_time = pos 1000;
  max_time = pos 2000;
  series = 1;
  samples = 1;
  chunks = 1;
  level = 1;
  sources = small.a ∷ [];
  parents = [];
  labels = [];
  resolution = pos 0;
  source = [];
  files = [];
  segment_files = [];
  times = small.said.times;
  distinct = small.said.distinct;
}

abbrev pub files : BlockFiles
files = record { meta = kept; index = small.index; segments = small.segment ∷ []; numbered = lit≤ tt }

-- a shelf that has them, and one that has no file
abbrev pub full : Setting
full = record { script = script; shelf = λ ulid. holding files (small.up ∷ []) }

abbrev pub bare : Setting
bare = setting_of script

-- ---- the runs

abbrev pub upload : List Entry
upload = runs.upload 2 1 1

abbrev pub journal : List Entry
journal = clock 1 0 ∷ upload

abbrev pub ends : List (List (List End))
ends = ((uploaded (shipped.Done 3) ∷ []) ∷ []) ∷ []

-- where the shelf is bare, nothing is done
abbrev pub bare_journal : List Entry
bare_journal = clock 1 0 ∷ []

abbrev pub bare_ends : List (List (List End))
bare_ends = ((refused 1 ∷ []) ∷ []) ∷ []

-- an answer to a query for all samples, where a gateway names the block
abbrev pub asked : Use → Answered
asked used = record {
  selector = [];
  named = record { gateway = 0; used = used; low = pos 0; high = pos 5000; sources = small.a ∷ [] } ∷ [];
  samples = small.triple ∷ [];
}
