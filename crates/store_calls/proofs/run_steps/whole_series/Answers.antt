use Rattle.std.proofs.Common.{subst}
use Rattle.store_ranges.specs.Asking.{query_asked, block_asked}
use Rattle.store_ranges.specs.Selecting.{Selects, tables_held}
use Rattle.store_calls.proofs.FoundSeries.{whole_found_in}
use Rattle.store_calls.proofs.run_steps.whole_series.Goals as goal

pub returns-in-Some : goal.returns-in-Some
returns-in-Some c =
    whole_found_in (query_asked c.args.asked.now) (block_asked c.args.asked.now) c.args.bytes.now c.in-Ok.reader c.in-Ok.ensures.exact c.in-Ok.ensures.found.0 c.in-Ok.ensures.found.1.lists_are c.in-Some.found c.members.result.now c.series_of_whole.result
    (subst (Selects (query_asked c.args.asked.now) (block_asked c.args.asked.now) (tables_held c.in-Ok.reader)) c.in-Some.is c.in_ok-found.ensures)
    c.members.ensures c.series_of_whole.ensures
