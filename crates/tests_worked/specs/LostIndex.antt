-- The script of one block over a bucket that loses the block's index after the sync: the query finds it absent.
use Rattle.std.specs.Prelude.{List, [], ◌∷◌}
use Rattle.world_core.specs.declared.entry.Entry.{Entry}
use Rattle.world_core.specs.declared.reply.Reply.TheVariants.{Absent}
use Rattle.store_calls.specs.declared.series_call.SeriesEnd.TheVariants as called
use Rattle.lifecycle_core.specs.Tasks.{End, answered}
use Rattle.tests_worked.specs.OneBlock as one
use Rattle.tests_worked.specs.OtherReads.{index_read, journal_with, ends_with}

-- the read of the index, which stands and is not shown
abbrev pub lost : Entry
lost = index_read Absent

abbrev pub journal : List Entry
journal = journal_with (lost ∷ [])

abbrev pub missing : End
missing = answered one.used (called.Missing 10)

abbrev pub ends : List (List (List End))
ends = ends_with (called.Missing 10)
