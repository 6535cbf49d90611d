use Rattle.std.proofs.Common.{◌*◌, Ok, subst, arith}
use Rattle.store_ranges.specs.Caches.{held}
use Rattle.store_ranges.specs.IndexReads.{reached}
use Rattle.store_calls.specs.RunFindings.{TestsSymbols}
use Rattle.store_calls.specs.WorkStates.{most, range_left, sized_left, symbols_piece, table_piece, with_symbols, with_table, whole_left}
use Rattle.store_calls.proofs.Leading.{leads_kept}
use Rattle.store_calls.proofs.IndexPlans.{symbols_read, symbols_refused}
use Rattle.store_calls.proofs.index_steps.take_symbols.Goals as goal

pub returns-in-Some : goal.returns-in-Some
returns-in-Some c =
    leads_kept c.args.asked.now (held c.want_table.new.cache) (7 * most * most) (7 * most * most)
    (range_left c.args.asked.now (table_piece c.in-Some.read.places) (reached c.args.last (held c.args.cache.now)) (with_table c.args.asked.now c.in-Some.read))
    (sized_left c.args.asked.now (symbols_piece c.args.places) (reached c.args.last (held c.args.cache.now)) (with_symbols c.args.asked.now c.args.places) c.args.bytes)
    c.want_table.result (omega arith)
    (symbols_read c.args.asked.now c.args.places c.args.bytes c.in-Some.read c.args.last (held c.args.cache.now) (subst (TestsSymbols c.args.places c.args.bytes) c.in-Some.is c.in_ok-read.ensures))
    c.want_table.ensures

pub returns-in-None : goal.returns-in-None
returns-in-None c =
    leads_kept c.args.asked.now (held c.args.cache.now) (4 * most * most) (7 * most * most) (whole_left c.args.asked.now (held c.args.cache.now))
    (sized_left c.args.asked.now (symbols_piece c.args.places) (reached c.args.last (held c.args.cache.now)) (with_symbols c.args.asked.now c.args.places) c.args.bytes)
    (Ok c.ask_whole.result) (omega arith)
    (symbols_refused c.args.asked.now c.args.places c.args.bytes c.args.last (held c.args.cache.now) (subst (TestsSymbols c.args.places c.args.bytes) c.in-None.is c.in_ok-read.ensures))
    (c.ask_whole.ensures (held c.args.cache.now))
