-- The two blocks, where the compaction does not find the first one's index, which stands. The script is that of `CompactedPair`
-- without its last two lines.
use Rattle.std.specs.Prelude.{List, [], ◌∷◌, ◌++◌, None}
use Rattle.block_keys.specs.declared.key.Key.TheVariants as key
use Rattle.world_core.specs.declared.entry.Entry.{Entry}
use Rattle.compactor.specs.declared.compact_end.CompactEnd.TheVariants as compacting
use Rattle.script_core.specs.declared.script.Script.{Script}
use Rattle.script_workers.specs.declared.phase.Phase.{Phase}
use Rattle.script_workers.specs.declared.work.Work.TheVariants.{Compact}
use Rattle.lifecycle_core.specs.Setting.{Setting, setting_of}
use Rattle.lifecycle_core.specs.Tasks.{End, compacted}
use Rattle.tests_worked.specs.CompactedPair as pair
use Rattle.tests_worked.specs.Entries.{absent, clock}
use Rattle.tests_worked.specs.SmallBlock as small

abbrev pub phases : List Phase
phases = pair.phase 9 1_800_000 (Compact None) ∷ []

abbrev pub script : Script
script = pair.script_with phases

abbrev pub setting : Setting
setting = setting_of script

-- the read of the index, which stands and is not shown
abbrev pub missed : Entry
missed = absent 16 3 1_800_006 (key.Index small.a)

abbrev pub compaction : List Entry
compaction = pair.round_sync ++ missed ∷ []

abbrev pub front : List Entry
front = pair.begun ++ clock 10 1_800_000 ∷ pair.round_sync

abbrev pub journal : List Entry
journal = front ++ missed ∷ []

abbrev pub ends : List (List (List End))
ends = pair.upload_ends ∷ ((compacted (compacting.Missing 16) ∷ []) ∷ []) ∷ []
