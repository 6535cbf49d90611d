use Rattle.std.proofs.Common.{◌+◌, ◌*◌, length, map, Ok, subst, arith}
use Rattle.store_ranges.specs.Caches.{held}
use Rattle.store_ranges.specs.ToRead.{run_read}
use Rattle.store_ranges.specs.IndexReads.{reached}
use Rattle.store_calls.specs.WorkStates.{most, texts_of, runs_left, chunks_left, whole_left}
use Rattle.store_calls.specs.RunFindings.{GoesOnRuns}
use Rattle.store_calls.proofs.Leading.{leads_kept}
use Rattle.store_calls.proofs.RunsOn.{runs_wait}
use Rattle.store_calls.proofs.index_steps.go_on_runs.Goals as goal

pub returns-in-Waits : goal.returns-in-Waits
returns-in-Waits c =
    runs_wait c.args.asked.now (held c.args.cache.now) (held c.cached_runs.new.cache) c.args.last c.args.runs.items c.args.series.items
    (record { read = c.args.read; run = c.in-Waits.run'; later = c.in-Waits.later; series = c.in-Waits.series }) c.ask_range.result
    (subst (GoesOnRuns c.args.asked.now (texts_of c.args.read) c.args.last (held c.args.cache.now) (held c.cached_runs.new.cache) c.args.runs.items c.args.series.items) c.in-Waits.is c.in_ok-run.ensures)
    c.ask_range.ensures

pub returns-in-All : goal.returns-in-All
returns-in-All c =
    leads_kept c.args.asked.now (held c.cached_runs.new.cache) (3 * most * most) (4 * most * most + length c.args.runs.items)
    (chunks_left c.args.asked.now (reached c.args.last (held c.cached_runs.new.cache)) c.in-All.series.items)
    (runs_left c.args.asked.now (texts_of c.args.read) (map run_read c.args.runs.items) (reached c.args.last (held c.args.cache.now)) c.args.series.items)
    c.begin_chunks.result (omega arith)
    (subst (GoesOnRuns c.args.asked.now (texts_of c.args.read) c.args.last (held c.args.cache.now) (held c.cached_runs.new.cache) c.args.runs.items c.args.series.items) c.in-All.is c.in_ok-run.ensures)
    (c.begin_chunks.ensures (held c.cached_runs.new.cache))

pub returns-in-Refused : goal.returns-in-Refused
returns-in-Refused c =
    leads_kept c.args.asked.now (held c.cached_runs.new.cache) (4 * most * most) (4 * most * most + length c.args.runs.items)
    (whole_left c.args.asked.now (held c.cached_runs.new.cache))
    (runs_left c.args.asked.now (texts_of c.args.read) (map run_read c.args.runs.items) (reached c.args.last (held c.args.cache.now)) c.args.series.items)
    (Ok c.ask_whole.result) (omega arith)
    (subst (GoesOnRuns c.args.asked.now (texts_of c.args.read) c.args.last (held c.args.cache.now) (held c.cached_runs.new.cache) c.args.runs.items c.args.series.items) c.in-Refused.is c.in_ok-run.ensures)
    (c.ask_whole.ensures (held c.cached_runs.new.cache))
