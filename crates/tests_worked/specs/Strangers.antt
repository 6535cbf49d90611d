-- The script that uploads its block too late, where the upload's worker has seat 5, and a stranger acts beside it at seat 7.
use Rattle.std.specs.Prelude.{List, [], ◌∷◌}
use Rattle.block_keys.specs.declared.key.Key.TheVariants as key
use Rattle.world_core.specs.declared.entry.Entry.{Entry}
use Rattle.tests_worked.specs.SmallBlock as small
use Rattle.tests_worked.specs.Entries.{absent, clock, listed, stored}

abbrev pub look : Entry
look = absent 2 5 1_800_001 (key.Meta small.a)

abbrev pub own_puts : List Entry
own_puts =
    stored 4 5 1_800_003 (key.Segment small.a 1) small.segment
    ∷ stored 5 5 1_800_004 (key.Index small.a) small.index
    ∷ stored 6 5 1_800_005 (key.Meta small.a) small.meta
    ∷ []

-- the upload's entries
abbrev pub own_entries : List Entry
own_entries = look ∷ own_puts

-- between its look and its puts stands this entry
abbrev pub made_with : Entry → List Entry
made_with stranger = look ∷ stranger ∷ own_puts

abbrev pub journal_with : Entry → List Entry
journal_with stranger = clock 1 1_800_000 ∷ made_with stranger

-- the stranger lists the names of blocks
abbrev pub lists : Entry
lists = listed 3 7 1_800_002 []

-- the stranger puts an object
abbrev pub puts : Entry
puts = stored 3 7 1_800_002 (key.Index small.a) small.index
