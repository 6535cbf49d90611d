use Rattle.std.proofs.Common.{◌≡◌, ◌+◌, ◌≤◌, map, drop, length, vec_len}
use Rattle.world_turn.specs.Passes.{view_of}
use Rattle.phase_runner.proofs.Taking.{HasTaken}
use Rattle.phase_runner.proofs.phase.join_all.Given as goal

abbrev pub invariant-loop-work : goal.invariant-loop-work
invariant-loop-work g l =
    HasTaken g.J.Job.may (record { full = g.J.Job.met_full; wanted = g.J.Job.wanted }) l.fn.shared.table.shared.table_id (view_of l.fn.first.value) (l.fn.first.value.splits + 1) l.fn.jobs.value.items l.fn.root l.root (map (λ w. (w.pass, w.end)) (drop (length l.yielded) l.fn.works.items)) l.ends.items
    × (vec_len l.ends ≡ length l.yielded) × (vec_len l.fn.works ≤ l.ends.cap)
