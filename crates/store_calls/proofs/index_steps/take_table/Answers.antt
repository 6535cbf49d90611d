use Rattle.std.proofs.Common.{◌*◌, Ok, subst, arith}
use Rattle.store_ranges.specs.Caches.{held}
use Rattle.store_ranges.specs.IndexReads.{reached}
use Rattle.store_calls.specs.RunFindings.{TestsTable}
use Rattle.store_calls.specs.WorkStates.{most, range_left, sized_left, table_piece, lists_piece, with_table, with_lists, whole_left}
use Rattle.store_calls.proofs.Leading.{leads_kept}
use Rattle.store_calls.proofs.IndexPlans.{table_read, table_refused}
use Rattle.store_calls.proofs.index_steps.take_table.Goals as goal

pub returns-in-Some : goal.returns-in-Some
returns-in-Some c =
    leads_kept c.args.asked.now (held c.want_lists.new.cache) (6 * most * most) (6 * most * most)
    (range_left c.args.asked.now (lists_piece c.in-Some.both.first.places) (reached c.args.last (held c.args.cache.now)) (with_lists c.args.asked.now c.in-Some.both))
    (sized_left c.args.asked.now (table_piece c.args.read.places) (reached c.args.last (held c.args.cache.now)) (with_table c.args.asked.now c.args.read) c.args.bytes)
    c.want_lists.result (omega arith)
    (table_read c.args.asked.now c.args.read c.args.bytes c.in-Some.both c.args.last (held c.args.cache.now) (subst (TestsTable c.args.read c.args.bytes) c.in-Some.is c.in_ok-both.ensures))
    c.want_lists.ensures

pub returns-in-None : goal.returns-in-None
returns-in-None c =
    leads_kept c.args.asked.now (held c.args.cache.now) (4 * most * most) (6 * most * most) (whole_left c.args.asked.now (held c.args.cache.now))
    (sized_left c.args.asked.now (table_piece c.args.read.places) (reached c.args.last (held c.args.cache.now)) (with_table c.args.asked.now c.args.read) c.args.bytes)
    (Ok c.ask_whole.result) (omega arith)
    (table_refused c.args.asked.now c.args.read c.args.bytes c.args.last (held c.args.cache.now) (subst (TestsTable c.args.read c.args.bytes) c.in-None.is c.in_ok-both.ensures))
    (c.ask_whole.ensures (held c.args.cache.now))
