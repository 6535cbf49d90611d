use Rattle.std.proofs.Common.{◌≡◌, false, take, length}
use Rattle.report_lines.specs.lifecycle_core.specs.Holdings.{Holdings}
use Rattle.report_lines.specs.script_running.specs.Beside.{AreSeen}
use Rattle.run_notes.specs.RunHands.{TurnedRun}
use Rattle.line_running.specs.Lines.{line_of}
use Rattle.line_running.specs.Progress.{TasksDone}
use Rattle.line_running.proofs.phases.run_tasks.Given as goal

-- the tasks so far are done and told
abbrev pub invariant-loop-place : goal.invariant-loop-place
invariant-loop-place g l = record {
  done : (views : Holdings) → AreSeen views l.initial.sights
      → TasksDone (g.R.Report.tells l.lines) (line_of l.phase) (take l.place l.phase.tasks.now) views l.sights l.initial.hand.world.journal l.hand.world.journal;
  hand : TurnedRun g.B.Bucket.told l.initial.hand l.hand false false;
  ready : length l.sights ≡ length l.initial.sights;
}
