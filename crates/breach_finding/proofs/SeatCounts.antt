-- How many seats are taken behind a phase.
use Rattle.std.proofs.Common.{◌≡◌, ℕ, zero, suc, ◌+◌, ◌-◌, ◌^◌, ◌<◌, List, [], ◌∷◌, length, Some, refl, sym, ◌∙◌, ap, arith}
use Rattle.std.specs.Prelude.{min, slice_get}
use Rattle.script_core.specs.Workers.{seats_before, workers_after, workers_of}
use Rattle.script_core.specs.declared.script.Script.{Script}
use Rattle.script_workers.specs.Hands.{gateway_count, seats_after, seats_from}
use Rattle.script_workers.specs.declared.phase.Phase.{Phase}
use Rattle.script_workers.specs.declared.worker.Worker.{Worker}
use Rattle.lifecycle_core.proofs.phases.NextSeats.{seats_behind}
use Rattle.base.proofs.Lists.{take_none}

pub seats_first : (script : Script) → 0 ≡ seats_before script 0
unfolding seats_from
seats_first script = sym (ap (seats_from (gateway_count script.gateways) 0) (take_none script.phases))

-- the seats before the next phase
pub seats_next : (script : Script) (place : ℕ) (phase : Phase) (before count after : ℕ) → slice_get script.phases place ≡ Some phase → before ≡ seats_before script place
    → count ≡ length (workers_of script place) → after ≡ min (before + count) (2 ^ 32 - 1) → after ≡ seats_before script (place + 1)
seats_next script place phase before count after at is counted next =
    let f : after ≡ seats_after (seats_before script place) (length (workers_of script place)) = omega (arith, is, counted, next) in f ∙ sym (seats_behind script place phase at)

pub phase_at : (phases : List Phase) (place : ℕ) → place < length phases → (phase : Phase) × (slice_get phases place ≡ Some phase)
phase_at [] place within = absurd (omega (arith, within))
phase_at (p ∷ ps) zero within = (p, refl)
phase_at (p ∷ ps) (suc place) within = phase_at ps place (omega (arith, within))

-- the workers that are counted from the seats before are those of the phase
pub workers_here : (script : Script) (place before : ℕ) (workers : List Worker) → before ≡ seats_before script place → workers ≡ workers_after script before (slice_get script.phases place) → workers ≡ workers_of script place
workers_here script place before workers is are = are ∙ ap (λ (n : ℕ). workers_after script n (slice_get script.phases place)) is
