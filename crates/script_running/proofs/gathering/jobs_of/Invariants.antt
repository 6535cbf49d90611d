use Rattle.std.proofs.Common.{◌≡◌, ◌≤◌, length, take}
use Rattle.script_running.proofs.Sending.{AreSent}
use Rattle.script_running.proofs.gathering.jobs_of.Given as goal

-- the workers so far are sent
abbrev pub invariant-loop-worker : goal.invariant-loop-worker
invariant-loop-worker l = record {
  each : length l.sights.items ≡ length l.initial.sights.items;
  count : length l.jobs.items ≡ l.worker-index;
  room : length l.workers ≤ l.jobs.cap;
  sent : AreSent l.means l.place (take l.worker-index l.workers) l.initial.sights.items l.sights.items l.jobs.items;
}
