use Rattle.std.proofs.Common.{◌≡◌, ◌≤◌, false, length}
use Rattle.report_lines.specs.lifecycle_core.specs.Holdings.{Holdings}
use Rattle.report_lines.specs.lifecycle_core.specs.InLine.{seat_of}
use Rattle.report_lines.specs.script_running.specs.Lending.{setting_in}
use Rattle.report_lines.specs.script_running.specs.Beside.{AreSeen}
use Rattle.run_notes.specs.RunHands.{TurnedRun}
use Rattle.line_running.proofs.Steps.{Front}
use Rattle.line_running.proofs.tasks.do_task.Given as goal

-- the parts so far are done
abbrev pub invariant-loop-number : goal.invariant-loop-number
invariant-loop-number g l = record {
  done : (views : Holdings) → AreSeen views l.initial.sights
      → Front (setting_in l.phase.means.now) (seat_of l.phase.seats.workers) l.place l.task views l.number l.sights l.initial.hand.world.journal l.hand.world.journal l.parts.items;
  hand : TurnedRun g.B.Bucket.told l.initial.hand l.hand false false;
  ready : length l.sights ≡ length l.initial.sights;
  count : length l.parts.items ≡ l.number;
  room : l.count ≤ l.parts.cap;
}
