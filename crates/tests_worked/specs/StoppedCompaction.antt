-- The two blocks, where the compaction is stopped before it puts the new block's meta. What it has put is a partial, and two days later
-- a cleaning deletes it. The script is that of `CompactedPair`, with these lines in the place of its last four:
--
--     at 1800000
--     compact stop 12
--     at 180000000
--     clean
use Rattle.std.specs.Prelude.{ℕ, List, [], ◌∷◌, ◌++◌, codes, None, Some}
use Rattle.block_keys.specs.declared.key.Key.TheVariants as key
use Rattle.world_core.specs.declared.entry.Entry.{Entry}
use Rattle.world_core.specs.declared.op.Op.TheVariants as op
use Rattle.world_core.specs.declared.reply.Reply.TheVariants as reply
use Rattle.cleaner.specs.declared.clean.CleanEnd.TheVariants as cleaning
use Rattle.script_core.specs.declared.script.Script.{Script}
use Rattle.script_workers.specs.declared.phase.Phase.{Phase}
use Rattle.script_workers.specs.declared.work.Work.TheVariants.{Compact, Clean}
use Rattle.lifecycle_core.specs.Setting.{Setting, setting_of}
use Rattle.lifecycle_core.specs.Tasks.{End, cleaned, stopped}
use Rattle.tests_worked.specs.CompactedPair as pair
use Rattle.tests_worked.specs.Entries.{absent, clock, deleted, entry, found, listed}
use Rattle.tests_worked.specs.SmallBlock as small

abbrev pub phases : List Phase
phases = pair.phase 9 1_800_000 (Compact (Some 12)) ∷ pair.phase 11 180_000_000 (Clean None) ∷ []

abbrev pub script : Script
script = pair.script_with phases

abbrev pub setting : Setting
setting = setting_of script

-- ---- the run: seats 3 and 4 are those of the compaction and of the cleaning

abbrev pub compaction : List Entry
compaction = pair.round_sync ++ (pair.reads ++ pair.data_put)

-- the looks at both blocks, which have a meta and no mark
abbrev pub looks : List Entry
looks =
    absent 25 4 180_000_002 (key.Mark small.a)
    ∷ found 26 4 180_000_003 (key.Meta small.a) small.meta
    ∷ absent 27 4 180_000_004 (key.Mark pair.b)
    ∷ found 28 4 180_000_005 (key.Meta pair.b) pair.b_meta
    ∷ absent 29 4 180_000_006 (key.Mark pair.n)
    ∷ []

abbrev pub page : Entry
page = listed 24 4 180_000_001 (small.a_text ∷ pair.b_text ∷ pair.n_text ∷ [])

-- the read that finds no meta of the new one
abbrev pub no_meta : Entry
no_meta = absent 30 4 180_000_007 (key.Meta pair.n)

abbrev pub objects : List (List ℕ)
objects = codes "chunks/000001" ∷ codes "index" ∷ []

abbrev pub deletes : List Entry
deletes =
    deleted 32 4 180_000_009 (key.Meta pair.n)
    ∷ deleted 33 4 180_000_010 (key.Segment pair.n 1)
    ∷ deleted 34 4 180_000_011 (key.Index pair.n)
    ∷ deleted 35 4 180_000_012 (key.Mark pair.n)
    ∷ []

abbrev pub block_page : Entry
block_page = entry 31 4 180_000_008 (op.BlockPage pair.n [] 1_000) (reply.Names objects)

abbrev pub deletion : List Entry
deletion = block_page ∷ deletes

abbrev pub cleaning_made : List Entry
cleaning_made = page ∷ looks ++ no_meta ∷ deletion

abbrev pub until_no_meta : List Entry
until_no_meta = pair.begun ++ clock 10 1_800_000 ∷ compaction ++ clock 23 180_000_000 ∷ page ∷ looks

abbrev pub journal : List Entry
journal = until_no_meta ++ no_meta ∷ deletion

abbrev pub ends : List (List (List End))
ends =
    pair.upload_ends
    ∷ ((stopped 12 ∷ []) ∷ [])
    ∷ ((cleaned (cleaning.Done 0 1) ∷ []) ∷ [])
    ∷ []
