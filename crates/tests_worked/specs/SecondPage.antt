-- A bucket that answers the first page of a sync, whose limit is one name, by one empty name. So the sync asks for the first page
-- again. The script is
--
--     rule page-limit 1
--     gateway g
--     at 0
--     sync g
use Rattle.std.specs.Prelude.{ℕ, List, [], ◌∷◌, codes, None}
use Rattle.moment_core.specs.Partitions.{all_times}
use Rattle.moment_core.specs.StandardRules.{minutes, hours}
use Rattle.world_core.specs.declared.entry.Entry.{Entry}
use Rattle.world_core.specs.declared.op.Op.TheVariants as op
use Rattle.world_core.specs.declared.reply.Reply.TheVariants as reply
use Rattle.meta_fetcher.specs.declared.view.View.{View}
use Rattle.script_core.specs.declared.script.Script.{Script}
use Rattle.script_workers.specs.declared.work.Work.TheVariants.{Sync}
use Rattle.lifecycle_core.specs.Setting.{Setting, setting_of}
use Rattle.tests_worked.specs.Entries.{clock, entry}
use Rattle.tests_worked.specs.SmallRuns as runs

abbrev pub script : Script
script = record {
  rules = record {
    consistency = minutes 30;
    ignore = hours 24;
    delete = hours 48;
    partial = hours 48;
    upload = minutes 30;
    tick = record { ms = 1 };
    page_limit = 1;
    replicas = [];
    retention = None;
  };
  gateways = codes "g" ∷ [];
  partitions = all_times ∷ [];
  blocks = [];
  selectors = [];
  phases = record { line = 3; moment = record { ms = 0 }; tasks = record { line = 4; work = Sync 0 } ∷ [] } ∷ [];
}

abbrev pub setting : Setting
setting = setting_of script

-- a page of at most one name, after no name
abbrev pub page : ℕ → ℕ → List (List ℕ) → Entry
page seq moment names = entry seq 1 moment (op.RootPage [] 1) (reply.Names names)

abbrev pub second : List Entry
second = page 3 2 [] ∷ []

-- the gateway's sync
abbrev pub sync : List Entry
sync = page 2 1 ([] ∷ []) ∷ second

abbrev pub journal : List Entry
journal = clock 1 0 ∷ sync

-- the view of entries from one with this number and moment on
abbrev pub view : ℕ → ℕ → View
view first begin = runs.view_of first begin 2 None
