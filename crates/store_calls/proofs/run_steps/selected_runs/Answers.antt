use Rattle.std.proofs.Common.{◌≡◌, List, ℕ, Ok, subst}
use Rattle.index_parts.specs.RowsReading.{postings_table_at}
use Rattle.index_parts.specs.Parts.{known}
use Rattle.store_ranges.specs.IndexReads.{part_at}
use Rattle.store_ranges.specs.Asking.{query_asked, block_asked}
use Rattle.store_ranges.specs.Selecting.{Selects, tables_held}
use Rattle.store_ranges.specs.ToRead.{AreRunsToRead}
use Rattle.store_calls.specs.WorkStates.{table_piece}
use Rattle.store_calls.proofs.FoundSeries.{parts_found}
use Rattle.store_calls.proofs.run_steps.selected_runs.Goals as goal

pub returns-in-Some : goal.returns-in-Some
returns-in-Some c =
    let places = c.args.read.now.first.places in
    let runs = c.in_ok-runs_to_read-in-Some.field-0.items in
    parts_found c.args.read.now c.args.lists.now c.in_ok-reader.reader
    (subst (λ (b : List ℕ). postings_table_at (known (part_at (table_piece places) b)) places.toc.postings_table ≡ Ok c.in_ok-reader.reader.rows) c.bytes.ensures (c.in_ok-reader.ensures.rows places.table))
    c.in_ok-reader.ensures.lists (query_asked c.args.asked.now) (block_asked c.args.asked.now) places.toc places.size c.in-Some.found runs
    (subst (Selects (query_asked c.args.asked.now) (block_asked c.args.asked.now) (tables_held c.in_ok-reader.reader)) c.in-Some.is c.in_ok-found.ensures)
    (subst (λ (all : List ℕ). AreRunsToRead places.toc places.size all c.in-Some.found.numbers runs) c.members.ensures
    (subst (λ (numbers : List ℕ). AreRunsToRead places.toc places.size c.members.result.now numbers runs) c.members-in-Some.ensures c.in_ok-runs_to_read-in-Some.ensures))
