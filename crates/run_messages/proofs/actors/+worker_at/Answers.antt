use Rattle.std.proofs.Common.{refl, sym}
use Rattle.run_messages.proofs.WorkerSeats.{worker_first, worker_later, worker_none}
use Rattle.run_messages.proofs.actors.+worker_at.Goals as goal

pub returns-in-empty : goal.returns-in-empty
returns-in-empty t c = worker_none c.args.seat c.args.workers.now c.in-empty.len_below

pub returns-then-worker-seat : goal.returns-then-worker-seat
returns-then-worker-seat t c = worker_first c.args.seat c.args.workers.now c.worker-item.result c.in-len1-up.len_at_least c.worker-item.is c.if-worker-seat.true

pub returns-else-worker-seat : goal.returns-else-worker-seat
returns-else-worker-seat t c =
    worker_later c.args.seat c.args.workers.now _ c.worker-item.result _ c.in-len1-up.len_at_least c.worker-item.is c.if-worker-seat.false refl c.worker_at.ensures
