use Rattle.std.proofs.Common.{◌≤◌, length, map}
use Rattle.world_core.specs.Plans.{Keeps}
use Rattle.store_ranges.specs.Caches.{held}
use Rattle.store_ranges.specs.IndexReads.{reached}
use Rattle.store_ranges.specs.ToRead.{run_read}
use Rattle.store_calls.specs.WorkStates.{runs_left, texts_of}
use Rattle.store_calls.proofs.run_steps.cached_runs.Given as goal

abbrev pub invariant-loop-run : goal.invariant-loop-run
invariant-loop-run l =
    Keeps (runs_left l.asked (texts_of l.read) (map run_read l.later.items) (reached l.last (held l.cache)) l.all.items)
    (runs_left l.asked (texts_of l.read) (map run_read l.fn.runs.items) (reached l.last (held l.initial.cache)) l.fn.series.items)
    × (length l.later.items ≤ length l.fn.runs.items)

abbrev pub decreases-loop-run : goal.decreases-loop-run
decreases-loop-run l = length l.later.items
