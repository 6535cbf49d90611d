use Rattle.std.proofs.Common.{◌*◌, Ok, subst, arith}
use Rattle.store_ranges.specs.Caches.{held}
use Rattle.store_ranges.specs.Asking.{query_asked, block_asked}
use Rattle.store_ranges.specs.IndexReads.{reached, after_contents}
use Rattle.store_calls.specs.BlockReads.{breaks_off}
use Rattle.store_calls.specs.RunFindings.{FindsSections}
use Rattle.store_calls.specs.WorkStates.{most, after_index, range_left, symbols_piece, with_symbols, whole_left}
use Rattle.store_calls.proofs.Leading.{leads_kept}
use Rattle.store_calls.proofs.IndexPlans.{contents_read, contents_refused}
use Rattle.store_calls.proofs.index_steps.take_contents.Goals as goal

pub returns-in-Some : goal.returns-in-Some
returns-in-Some c =
    leads_kept c.args.asked.now (held c.want_symbols.new.cache) (8 * most * most) (8 * most * most)
    (range_left c.args.asked.now (symbols_piece c.in-Some.places) (reached c.args.seq (held c.args.cache.now)) (with_symbols c.args.asked.now c.in-Some.places))
    (after_contents breaks_off (query_asked c.args.asked.now) (block_asked c.args.asked.now) c.args.size.bytes (after_index (query_asked c.args.asked.now) (block_asked c.args.asked.now)) (held c.args.cache.now) c.args.seq c.args.bytes.now)
    c.want_symbols.result (omega arith)
    (contents_read c.args.asked.now c.in-Some.places c.args.size.bytes (held c.args.cache.now) c.args.seq c.args.bytes.now (subst (FindsSections c.args.size.bytes c.args.bytes.now) c.in-Some.is c.sections_of.ensures))
    c.want_symbols.ensures

pub returns-in-None : goal.returns-in-None
returns-in-None c =
    leads_kept c.args.asked.now (held c.args.cache.now) (4 * most * most) (8 * most * most) (whole_left c.args.asked.now (held c.args.cache.now))
    (after_contents breaks_off (query_asked c.args.asked.now) (block_asked c.args.asked.now) c.args.size.bytes (after_index (query_asked c.args.asked.now) (block_asked c.args.asked.now)) (held c.args.cache.now) c.args.seq c.args.bytes.now)
    (Ok c.ask_whole.result) (omega arith)
    (contents_refused c.args.asked.now c.args.size.bytes (held c.args.cache.now) c.args.seq c.args.bytes.now (subst (FindsSections c.args.size.bytes c.args.bytes.now) c.in-None.is c.sections_of.ensures))
    (c.ask_whole.ensures (held c.args.cache.now))
