-- How many seats are taken behind a phase: those before it, and its workers'.
use Rattle.std.proofs.Common.{◌≡◌, ℕ, zero, suc, ◌+◌, List, [], ◌∷◌, ◌++◌, length, take, Option, Some, sym, ◌∙◌, ap, arith}
use Rattle.std.specs.Prelude.{slice_get}
use Rattle.script_core.specs.Workers.{seats_before, workers_after, workers_of}
use Rattle.script_core.specs.declared.script.Script.{Script}
use Rattle.script_workers.specs.Hands.{gateway_count, hands_of, seats_after, seats_from}
use Rattle.script_workers.specs.declared.phase.Phase.{Phase}
use Rattle.script_workers.specs.declared.worker.Worker.{Worker}
use Rattle.script_workers.proofs.PhaseCounts.{workers_count, seats_from-push}

by_place : (phases : List Phase) (place : ℕ) (phase : Phase) → slice_get phases place ≡ Some phase → take (suc place) phases ≡ take place phases ++ phase ∷ []
by_place [] place phase is = cc (is)
by_place (p ∷ phases) zero phase is = let same : p ≡ phase = cc (is) in ap (λ (q : Phase). q ∷ []) same
by_place (p ∷ phases) (suc place) phase is = ap (λ (qs : List Phase). p ∷ qs) (by_place phases place phase is)

-- the phases up to one
pub upto : (phases : List Phase) (place : ℕ) (phase : Phase) → slice_get phases place ≡ Some phase → take (place + 1) phases ≡ take place phases ++ phase ∷ []
upto phases place phase at = let more : suc place ≡ place + 1 = omega arith in ap (λ (n : ℕ). take n phases) (sym more) ∙ by_place phases place phase at

workers_counted : (script : Script) (place : ℕ) (phase : Phase) → slice_get script.phases place ≡ Some phase → length (workers_of script place) ≡ length (hands_of (gateway_count script.gateways) phase.tasks)
workers_counted script place phase at =
    let gateways = gateway_count script.gateways in
    ap (λ (o : Option Phase). length {A = Worker} (workers_after script (seats_before script place) o)) at ∙ workers_count gateways (seats_before script place) phase.tasks (hands_of gateways phase.tasks)

pub seats_behind : (script : Script) (place : ℕ) (phase : Phase) → slice_get script.phases place ≡ Some phase → seats_before script (place + 1) ≡ seats_after (seats_before script place) (length (workers_of script place))
seats_behind script place phase at =
    let gateways = gateway_count script.gateways in
    ap (seats_from gateways 0) (upto script.phases place phase at) ∙ seats_from-push gateways 0 (take place script.phases) phase ∙ ap (seats_after (seats_before script place)) (sym (workers_counted script place phase at))
