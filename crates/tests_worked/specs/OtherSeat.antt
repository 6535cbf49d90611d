-- The run of the script of one block, where somebody else asks the query: at seat 9, which the script gives to nobody, and over the
-- view of the gateway's sync.
use Rattle.std.specs.Prelude.{pos, List, [], ◌∷◌, ◌++◌}
use Rattle.world_core.specs.declared.entry.Entry.{Entry}
use Rattle.store_ranges.specs.Reads.{Query}
use Rattle.store_calls.specs.SeriesCalls.{asking}
use Rattle.store_calls.specs.declared.series_call.SeriesEnd.{SeriesEnd}
use Rattle.store_calls.specs.declared.series_call.SeriesEnd.TheVariants as called
use Rattle.tests_worked.specs.Entries.{clock}
use Rattle.tests_worked.specs.OneBlock as one
use Rattle.tests_worked.specs.SmallBlock as small
use Rattle.tests_worked.specs.SmallRuns as runs

abbrev pub query : List Entry
query = runs.query 10 9 1_800_004

-- what follows the second clock entry
abbrev pub made : List Entry
made = one.sync ++ query

abbrev pub journal : List Entry
journal = clock 1 0 ∷ one.upload ++ clock 6 1_800_000 ∷ made

-- the query's first read
abbrev pub first_read : Entry
first_read = runs.contents_read 10 9 1_800_004

abbrev pub question : Query
question = asking one.selector [] (pos 0) (pos 5000)

abbrev pub answer : SeriesEnd
answer = called.Answer (small.up ∷ []) (small.a ∷ [])
