use Rattle.std.proofs.Common.{◌≡◌, length}
use Rattle.script_running.specs.Gathering.{parts_at}
use Rattle.script_running.proofs.Telling.{ToldTo}
use Rattle.script_running.proofs.gathering.tell.Given as goal

-- the tasks so far are told
abbrev pub invariant-loop-own : goal.invariant-loop-own
invariant-loop-own g l = record {
  place : l.place ≡ length l.yielded;
  told : ToldTo g.P.Report.tells l.script (parts_at l.fn.lists.items) l.tasks l.initial.report l.place l.report;
}
