use Rattle.std.proofs.Common.{◌*◌, List, ℕ, option_map, Some, None, Ok, subst, arith}
use Rattle.store_ranges.specs.Caches.{held}
use Rattle.store_ranges.specs.IndexReads.{reached}
use Rattle.store_calls.specs.RunFindings.{FindsRuns}
use Rattle.store_calls.specs.WorkStates.{most, sized_left, lists_piece, with_lists, whole_left}
use Rattle.store_calls.proofs.Leading.{leads_kept}
use Rattle.store_calls.proofs.IndexPlans.{lists_refused}
use Rattle.store_calls.proofs.RunsOn.{lists_on}
use Rattle.store_calls.proofs.index_steps.take_lists.Goals as goal

pub returns-in-Some : goal.returns-in-Some
returns-in-Some c =
    lists_on c.args.asked.now c.args.read c.args.bytes c.in-Some.runs.items c.from.result.items c.new.result.items c.args.last (held c.args.cache.now) (held c.go_on_runs.new.cache) c.go_on_runs.result
    (subst (λ (b : List ℕ). FindsRuns c.args.asked.now c.args.read b (Some c.in-Some.runs.items)) c.bytes-2.ensures
    (subst (λ found. FindsRuns c.args.asked.now c.args.read c.bytes-2.result.now (option_map (λ runs. runs.items) found)) c.in-Some.is c.in_ok-runs.ensures))
    c.from.ensures.0 c.new.ensures.items (omega (arith, c.from.result.ok.0, c.from.result.small.0, c.from.result.small.1)) c.go_on_runs.ensures

pub returns-in-None : goal.returns-in-None
returns-in-None c =
    leads_kept c.args.asked.now (held c.args.cache.now) (4 * most * most) (5 * most * most) (whole_left c.args.asked.now (held c.args.cache.now))
    (sized_left c.args.asked.now (lists_piece c.args.read.first.places) (reached c.args.last (held c.args.cache.now)) (with_lists c.args.asked.now c.args.read) c.args.bytes)
    (Ok c.ask_whole.result) (omega arith)
    (lists_refused c.args.asked.now c.args.read c.args.bytes c.args.last (held c.args.cache.now)
    (subst (λ (b : List ℕ). FindsRuns c.args.asked.now c.args.read b None) c.bytes-2.ensures
    (subst (λ found. FindsRuns c.args.asked.now c.args.read c.bytes-2.result.now (option_map (λ runs. runs.items) found)) c.in-None.is c.in_ok-runs.ensures)))
    (c.ask_whole.ensures (held c.args.cache.now))
