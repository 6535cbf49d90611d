-- How lawful journals begin.
use Rattle.std.proofs.Common.{◌≡◌, ℕ, ◌+◌, ◌<◌, List, [], ◌∷◌, length, refl, sym, subst, inl, inr, arith}
use Rattle.ulid_core.specs.Limits.{ulid_time_limit}
use Rattle.world_core.specs.Operations.{IsLawful, IsReplyTo}
use Rattle.world_core.specs.Moments.{moment_after, last_moment}
use Rattle.world_core.specs.Worlds.{IsJournal}
use Rattle.world_core.specs.declared.entry.Entry.{Entry}
use Rattle.world_core.proofs.Growing.{Each-none}
use Rattle.script_workers.specs.declared.phase.Phase.{Phase}
use Rattle.lifecycle_core.specs.Holdings.{none_held}
use Rattle.lifecycle_core.specs.InLine.{IsInLine, in_line}
use Rattle.lifecycle_core.specs.Phases.{IsLawfulJournal, IsRunOf, by_workers}
use Rattle.lifecycle_core.specs.Setting.{Setting}
use Rattle.lifecycle_core.specs.Ways.{BeginsPhase, PhasesRun, Way}

-- no phase was begun, whatever the way
pub no_phase : {State Ends : Type 0} (way : Way State Ends) (number : ℕ) (before : ℕ → State) (phases : List Phase) → PhasesRun way number before phases [] []
no_phase way number before [] = (refl, refl)
no_phase way number before (phase ∷ phases) = inl (refl, refl)

no_journal : (tick : ℕ) → IsJournal tick []
no_journal tick = record {
  few = omega arith;
  numbered = Each-none (λ before e. e.seq ≡ length before + 1);
  lawful = Each-none (λ before e. IsLawful e.op);
  kinds = Each-none (λ before e. IsReplyTo e.op e.reply);
  moments = Each-none (λ before e. e.moment.ms ≡ moment_after tick (last_moment before) e.op);
  small = Each-none (λ before e. e.moment.ms < ulid_time_limit);
}

pub none_run : (setting : Setting) → IsRunOf setting [] []
none_run setting = record { kept = no_journal setting.script.rules.tick.ms; phases = no_phase (by_workers setting) 0 none_held setting.script.phases }

pub none_lawful : (setting : Setting) → IsLawfulJournal setting []
none_lawful setting = ([], none_run setting)

pub none_in_line : (setting : Setting) → IsInLine setting []
none_in_line setting = ([], record { kept = no_journal setting.script.rules.tick.ms; phases = no_phase (in_line setting) 0 none_held setting.script.phases; turns = tt })

first_phase : {State Ends : Type 0} (way : Way State Ends) (number : ℕ) (before : ℕ → State) (phases : List Phase) (first : Entry) (others : List Entry) (ends : List Ends)
    → PhasesRun way number before phases (first ∷ others) ends → (phase : Phase) × (later : List Phase) × (phases ≡ phase ∷ later) × BeginsPhase phase first
first_phase way number before [] first others ends run = absurd (cc (run.0))
first_phase way number before (phase ∷ phases) first others ends (inl none) = absurd (cc (none.0))
first_phase way number before (phase ∷ phases) first others ends (inr begun) =
    let same : first ≡ begun.0 = cc (begun.6) in
    (phase, phases, refl, subst (BeginsPhase phase) (sym same) begun.7)

pub begins : (setting : Setting) (first : Entry) (others : List Entry) → IsLawfulJournal setting (first ∷ others)
    → (phase : Phase) × (later : List Phase) × (setting.script.phases ≡ phase ∷ later) × BeginsPhase phase first
begins setting first others lawful = first_phase (by_workers setting) 0 none_held setting.script.phases first others lawful.0 lawful.1.phases
