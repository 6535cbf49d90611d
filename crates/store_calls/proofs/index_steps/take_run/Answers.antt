use Rattle.std.proofs.Common.{◌*◌, ◌+◌, List, ℕ, length, map, option_map, Some, None, Ok, subst, arith}
use Rattle.store_ranges.specs.Caches.{held}
use Rattle.store_ranges.specs.Asking.{piece_of}
use Rattle.store_ranges.specs.ToRead.{run_read}
use Rattle.store_ranges.specs.IndexReads.{reached}
use Rattle.store_calls.specs.WorkStates.{most, sized_left, runs_left, with_run, whole_left, texts_of}
use Rattle.store_calls.specs.RunFindings.{TakesRun}
use Rattle.store_calls.proofs.Leading.{leads_kept}
use Rattle.store_calls.proofs.IndexPlans.{run_read_on, run_refused}
use Rattle.store_calls.proofs.index_steps.take_run.Goals as goal

pub returns-in-Some : goal.returns-in-Some
returns-in-Some c =
    leads_kept c.args.asked.now (held c.go_on_runs.new.cache) (4 * most * most + length c.args.work.later.items) (4 * most * most + length c.args.work.later.items)
    (runs_left c.args.asked.now (texts_of c.args.work.read) (map run_read c.args.work.later.items) (reached c.args.last (held c.args.cache.now)) c.in-Some.all.items)
    (sized_left c.args.asked.now (piece_of c.args.work.run.range) (reached c.args.last (held c.args.cache.now)) (with_run c.args.asked.now (texts_of c.args.work.read) (run_read c.args.work.run) (map run_read c.args.work.later.items) c.args.work.series.items) c.args.bytes.now)
    c.go_on_runs.result (omega arith)
    (run_read_on c.args.asked.now (texts_of c.args.work.read) (run_read c.args.work.run) (map run_read c.args.work.later.items) c.args.bytes.now c.args.work.series.items c.in-Some.all.items (reached c.args.last (held c.args.cache.now))
    (subst (λ (b : List ℕ). TakesRun (texts_of c.args.work.read) (run_read c.args.work.run) b c.args.work.series.items (Some c.in-Some.all.items)) c.bytes.ensures
    (subst (λ found. TakesRun (texts_of c.args.work.read) (run_read c.args.work.run) c.bytes.result.now c.args.work.series.items (option_map (λ all. all.items) found)) c.in-Some.is c.in_ok-all.ensures)))
    c.go_on_runs.ensures

pub returns-in-None : goal.returns-in-None
returns-in-None c =
    leads_kept c.args.asked.now (held c.args.cache.now) (4 * most * most) (4 * most * most + length c.args.work.later.items) (whole_left c.args.asked.now (held c.args.cache.now))
    (sized_left c.args.asked.now (piece_of c.args.work.run.range) (reached c.args.last (held c.args.cache.now)) (with_run c.args.asked.now (texts_of c.args.work.read) (run_read c.args.work.run) (map run_read c.args.work.later.items) c.args.work.series.items) c.args.bytes.now)
    (Ok c.ask_whole.result) (omega arith)
    (run_refused c.args.asked.now (texts_of c.args.work.read) (run_read c.args.work.run) (map run_read c.args.work.later.items) c.args.bytes.now c.args.work.series.items (reached c.args.last (held c.args.cache.now))
    (subst (λ (b : List ℕ). TakesRun (texts_of c.args.work.read) (run_read c.args.work.run) b c.args.work.series.items None) c.bytes.ensures
    (subst (λ found. TakesRun (texts_of c.args.work.read) (run_read c.args.work.run) c.bytes.result.now c.args.work.series.items (option_map (λ all. all.items) found)) c.in-None.is c.in_ok-all.ensures)))
    (c.ask_whole.ensures (held c.args.cache.now))
