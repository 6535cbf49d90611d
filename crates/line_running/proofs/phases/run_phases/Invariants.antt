use Rattle.std.proofs.Common.{◌≡◌, false, length}
use Rattle.script_core.specs.Workers.{seats_before}
use Rattle.run_notes.specs.RunHands.{TurnedRun}
use Rattle.line_running.specs.Progress.{Reached}
use Rattle.line_running.proofs.phases.run_phases.Given as goal
use Rattle.report_lines.specs.script_running.specs.Shelves.{setting_by}

-- the phases so far are done and told
abbrev pub invariant-loop-place : goal.invariant-loop-place
invariant-loop-place g l = record {
  reached : Reached g.R.Report.tells (setting_by l.script l.means.shelf) l.place l.progress.gateways.items l.hand.world.journal l.progress.report;
  hand : TurnedRun g.B.Bucket.told l.initial.hand l.hand false false;
  workers : l.progress.workers ≡ seats_before l.script l.place;
  ready : length l.progress.gateways.items ≡ length l.script.gateways;
}
