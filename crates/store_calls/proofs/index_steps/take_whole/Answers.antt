use Rattle.std.proofs.Common.{◌*◌, [], option_map, Some, subst, arith}
use Rattle.world_core.specs.Plans.{ends}
use Rattle.world_core.proofs.PlanLaws.{comes_kept}
use Rattle.store_ranges.specs.Asking.{query_asked, block_asked}
use Rattle.store_ranges.specs.Reads.{damaged}
use Rattle.store_ranges.specs.IndexReads.{reached, after_whole}
use Rattle.store_calls.specs.BlockReads.{breaks_off}
use Rattle.store_calls.specs.BlockRuns.{IsEnd}
use Rattle.store_calls.specs.WorkStates.{most, after_index, chunks_left}
use Rattle.store_calls.specs.RunFindings.{FindsSeries}
use Rattle.store_calls.specs.declared.block_call.BlockOutcome.TheVariants.{Damaged}
use Rattle.store_calls.proofs.Leading.{leads_kept, breaks}
use Rattle.store_calls.proofs.IndexPlans.{whole_read, whole_refused}
use Rattle.store_calls.proofs.index_steps.take_whole.Goals as goal

pub returns-in-Some : goal.returns-in-Some
returns-in-Some c = λ cache.
    leads_kept c.args.asked.now cache (3 * most * most) (3 * most * most) (chunks_left c.args.asked.now (reached c.args.seq cache) c.in-Some.series.items)
    (after_whole breaks_off (query_asked c.args.asked.now) (block_asked c.args.asked.now) cache (after_index (query_asked c.args.asked.now) (block_asked c.args.asked.now)) c.args.seq c.args.bytes.now)
    c.begin_chunks.result (omega arith)
    (whole_read c.args.asked.now cache c.args.seq c.args.bytes.now c.in-Some.series.items
    (subst (λ found. FindsSeries (query_asked c.args.asked.now) (block_asked c.args.asked.now) c.args.bytes.now (option_map (λ all. all.items) found)) c.in-Some.is c.in_ok-series.ensures))
    (c.begin_chunks.ensures cache)

pub returns-in-None : goal.returns-in-None
returns-in-None c = λ cache.
    comes_kept (ends (breaks_off (damaged c.args.seq) cache))
    (after_whole breaks_off (query_asked c.args.asked.now) (block_asked c.args.asked.now) cache (after_index (query_asked c.args.asked.now) (block_asked c.args.asked.now)) c.args.seq c.args.bytes.now) (IsEnd cache)
    (whole_refused c.args.asked.now cache c.args.seq c.args.bytes.now
    (subst (λ found. FindsSeries (query_asked c.args.asked.now) (block_asked c.args.asked.now) c.args.bytes.now (option_map (λ all. all.items) found)) c.in-None.is c.in_ok-series.ensures))
    [] (Some (Damaged c.args.seq)) (breaks cache (damaged c.args.seq))
