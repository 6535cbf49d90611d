-- The seats of a phase's workers follow one another.
use Rattle.std.proofs.Common.{◌≡◌, ℕ, suc, ◌+◌, List, [], ◌∷◌, length, Some, refl, subst, arith}
use Rattle.std.specs.Prelude.{slice_get}
use Rattle.script_core.proofs.SeatLaws.{are_seated}
use Rattle.script_core.specs.Lawful.{IsLawfulScript}
use Rattle.script_core.specs.Workers.{workers_before, workers_of}
use Rattle.script_core.specs.declared.script.Script.{Script}
use Rattle.script_workers.specs.Hands.{gateway_count, hands_of}
use Rattle.script_workers.specs.Staff.{IsWorkerOf}
use Rattle.script_workers.specs.declared.hand.Hand.{Hand}
use Rattle.script_workers.specs.declared.phase.Phase.{Phase}
use Rattle.script_workers.specs.declared.task.Task.{Task}
use Rattle.script_workers.specs.declared.worker.Worker.{Worker}
use Rattle.script_running.specs.Ended.{AreInRow}

in_row : (gateways : ℕ) (tasks : List Task) (taken : ℕ) (hs : List Hand) (ws : List Worker) → length ws ≡ length hs
    → ((place : ℕ) (h : Hand) (w : Worker) → slice_get hs place ≡ Some h → slice_get ws place ≡ Some w → IsWorkerOf gateways tasks h (taken + place + 1) w) → AreInRow (taken + 1) ws
in_row gateways tasks taken hs [] long each = tt
in_row gateways tasks taken [] (w ∷ ws) long each = absurd (omega (arith, long))
in_row gateways tasks taken (h ∷ hs) (w ∷ ws) long each = (
  (let sits = (each 0 h w refl refl).seat in omega (arith, sits)),
  in_row gateways tasks (taken + 1) hs ws (omega (arith, long))
      (λ place x y one two. let same : taken + suc place + 1 ≡ (taken + 1) + place + 1 = omega arith in subst (λ (n : ℕ). IsWorkerOf gateways tasks x n y) same (each (suc place) x y one two)),
)

pub workers_in_row : (script : Script) (number : ℕ) (phase : Phase) → IsLawfulScript script → slice_get script.phases number ≡ Some phase → AreInRow (length (workers_before script number) + 1) (workers_of script number)
workers_in_row script number phase lawful at =
    let s = are_seated script number phase lawful at in
    in_row (gateway_count script.gateways) phase.tasks (length (workers_before script number)) (hands_of (gateway_count script.gateways) phase.tasks) (workers_of script number) s.count s.each
