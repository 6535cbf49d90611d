-- What holds of each entry of a task's run holds of each entry of a whole run.
use Rattle.std.proofs.Common.{◌≡◌, inl, inr, ℕ, ◌+◌, List, [], ◌∷◌, ◌++◌, sym, subst}
use Rattle.std.specs.List.{All}
use Rattle.std.proofs.lemmas.List.Elements.{All-append, All-cons, All-nil}
use Rattle.world_core.specs.declared.entry.Entry.{Entry}
use Rattle.script_workers.specs.declared.phase.Phase.{Phase}
use Rattle.lifecycle_core.specs.Ways.{BeginsPhase, PhasesRun, Way}

none_each : (P : Entry → Type 0) (entries : List Entry) → entries ≡ [] → All P entries
none_each P entries nil = subst (All P) (sym nil) (All-nil P)

-- each entry of phases, whatever the way
pub phases_each : {State Ends : Type 0} (way : Way State Ends) (P : Entry → Type 0) → ((number : ℕ) (phase : Phase) (before : ℕ → State) (made : List Entry) (ends : Ends) (after : ℕ → State) → way.works number phase before made ends after → All P made)
    → ((phase : Phase) (clock : Entry) → BeginsPhase phase clock → P clock) → (number : ℕ) (before : ℕ → State) (phases : List Phase) (entries : List Entry) (ends : List Ends) → PhasesRun way number before phases entries ends → All P entries
phases_each way P each sets number before [] entries ends run = none_each P entries run.0
phases_each way P each sets number before (phase ∷ phases) entries ends (inl none) = none_each P entries none.0
phases_each way P each sets number before (phase ∷ phases) entries ends (inr (clock, made, others, first, later, after, parts, begins, run, are, go)) =
    subst (All P) (sym parts) (All-cons P clock (made ++ others) (sets phase clock begins)
    (All-append P made others (each number phase before made first after run) (phases_each way P each sets (number + 1) after phases others later go)))
