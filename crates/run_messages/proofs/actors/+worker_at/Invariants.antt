use Rattle.std.proofs.Common.{length}
use Rattle.run_messages.proofs.actors.+worker_at.Given as goal

abbrev pub decreases-worker_at : goal.decreases-worker_at
decreases-worker_at l = length l.workers.now
