use Rattle.std.proofs.Common.{◌*◌, Some, Ok, arith}
use Rattle.store_ranges.specs.Asking.{query_asked, block_asked}
use Rattle.store_ranges.specs.IndexReads.{by_size}
use Rattle.store_calls.specs.BlockReads.{breaks_off}
use Rattle.store_calls.specs.WorkStates.{most, after_index, whole_left, contents_left}
use Rattle.store_calls.proofs.Leading.{leads_kept}
use Rattle.store_calls.proofs.IndexPlans.{sized_contents, sized_whole}
use Rattle.store_calls.proofs.index_steps.begin_sized.Goals as goal

pub returns-then-size-ge-LEAST : goal.returns-then-size-ge-LEAST
returns-then-size-ge-LEAST c = λ cache.
    leads_kept c.args.asked.now cache (9 * most * most) (9 * most * most) (contents_left c.args.asked.now c.args.size cache)
    (by_size breaks_off (query_asked c.args.asked.now) (block_asked c.args.asked.now) (Some c.args.size) (after_index (query_asked c.args.asked.now) (block_asked c.args.asked.now)) cache)
    (Ok c.ask_contents.result) (omega arith) (sized_contents c.args.asked.now cache c.args.size c.if-size-ge-LEAST.true) (c.ask_contents.ensures cache)

pub returns-else-size-ge-LEAST : goal.returns-else-size-ge-LEAST
returns-else-size-ge-LEAST c = λ cache.
    leads_kept c.args.asked.now cache (4 * most * most) (9 * most * most) (whole_left c.args.asked.now cache)
    (by_size breaks_off (query_asked c.args.asked.now) (block_asked c.args.asked.now) (Some c.args.size) (after_index (query_asked c.args.asked.now) (block_asked c.args.asked.now)) cache)
    (Ok c.ask_whole.result) (omega arith) (sized_whole c.args.asked.now cache c.args.size c.if-size-ge-LEAST.false) (c.ask_whole.ensures cache)
