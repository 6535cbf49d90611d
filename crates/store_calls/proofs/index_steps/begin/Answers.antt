use Rattle.std.proofs.Common.{◌*◌, Some, None, Ok, sym, ◌∙◌, arith}
use Rattle.store_ranges.specs.Asking.{query_asked, block_asked}
use Rattle.store_ranges.specs.IndexReads.{by_size}
use Rattle.store_calls.specs.BlockReads.{block_call, breaks_off}
use Rattle.store_calls.specs.WorkStates.{most, after_index, whole_left}
use Rattle.store_calls.proofs.Leading.{leads_kept}
use Rattle.store_calls.proofs.IndexPlans.{begins_by}
use Rattle.store_calls.proofs.index_steps.begin.Goals as goal

pub returns-in-Some : goal.returns-in-Some
returns-in-Some c = λ cache.
    leads_kept c.args.asked.now cache (9 * most * most) (9 * most * most)
    (by_size breaks_off (query_asked c.args.asked.now) (block_asked c.args.asked.now) (Some c.in-Some.size) (after_index (query_asked c.args.asked.now) (block_asked c.args.asked.now)) cache)
    (block_call (query_asked c.args.asked.now) (block_asked c.args.asked.now) cache) (Ok c.begin_sized.result) (omega arith)
    (begins_by c.args.asked.now cache (Some c.in-Some.size) (sym c.in-Some.is ∙ c.index_size.ensures)) (c.begin_sized.ensures cache)

pub returns-in-None : goal.returns-in-None
returns-in-None c = λ cache.
    leads_kept c.args.asked.now cache (4 * most * most) (9 * most * most) (whole_left c.args.asked.now cache)
    (block_call (query_asked c.args.asked.now) (block_asked c.args.asked.now) cache) (Ok c.ask_whole.result) (omega arith)
    (begins_by c.args.asked.now cache None (sym c.in-None.is ∙ c.index_size.ensures)) (c.ask_whole.ensures cache)
