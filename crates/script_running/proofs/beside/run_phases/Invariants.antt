use Rattle.std.proofs.Common.{◌≡◌, false, take}
use Rattle.script_core.specs.Workers.{seats_before}
use Rattle.script_running.specs.Shelves.{setting_by}
use Rattle.world_turn.specs.Closing.{AllJoined}
use Rattle.world_turn.specs.Passes.{table_of, view_of}
use Rattle.script_running.specs.Going.{HasReached}
use Rattle.script_running.proofs.beside.run_phases.Given as goal

-- the phases so far are finished
abbrev pub invariant-loop-place : goal.invariant-loop-place
invariant-loop-place g l = record {
  table : table_of l.root ≡ table_of l.initial.root;
  seat : l.root.seat ≡ 0;
  tick : (view_of l.root).tick ≡ (view_of l.initial.root).tick;
  refused : (view_of l.root).refused ≡ (view_of l.initial.root).refused;
  unwanted : (view_of l.root).wanted ≡ false;
  seats : l.root.splits ≡ seats_before l.run.script.now l.place;
  all : AllJoined (view_of l.root);
  reached : HasReached g.P.Report.tells (setting_by l.run.script.now l.run.means.now.shelf) (view_of l.root) (take l.place l.run.script.now.phases) l.progress;
}
