use Rattle.std.proofs.Common.{◌≡◌, ◌≤◌, false, length, take}
use Rattle.world_core.specs.Turning.{Turned}
use Rattle.lifecycle_core.specs.Conducts.{Who}
use Rattle.lifecycle_core.specs.Holdings.{Holding}
use Rattle.script_running.specs.Lending.{setting_in}
use Rattle.script_running.specs.Sights.{Sees}
use Rattle.script_running.proofs.WorkerSteps.{Worked}
use Rattle.script_running.proofs.worker.do_tasks.Given as goal

-- the tasks so far are done
abbrev pub invariant-loop-number : goal.invariant-loop-number
invariant-loop-number g l =
    let h = g.H.Hand in
    record {
      worked : (who : Who) (held : Holding) → who.gateway ≡ l.gateway → Sees held l.initial.sight
          → Worked (setting_in l.means) l.tasks who (take l.number l.places) held (h.told l.initial.hand).seat (h.told l.initial.hand).entries (h.told l.hand).entries l.sight l.parts.items;
      turned : Turned h.told h.keeps l.initial.hand l.hand false false;
      count : length l.parts.items ≡ l.number;
      room : length l.places ≤ l.parts.cap;
    }
