-- Runs in phases, whatever the way in which the tasks of a phase are done.
use Rattle.std.specs.Prelude.{◌≡◌, ◌≢◌, ◌⊎◌, ◌+◌, ℕ, List, [], ◌∷◌, ◌++◌}
use Rattle.world_core.specs.Operations.{IsAnswer, IsLawful, entry_of}
use Rattle.world_core.specs.declared.entry.Entry.{Entry}
use Rattle.world_core.specs.declared.op.Op.{Op}
use Rattle.world_core.specs.declared.op.Op.TheVariants.{Clock}
use Rattle.world_core.specs.declared.seen.Seen.{Seen}
use Rattle.script_workers.specs.declared.phase.Phase.{Phase}

-- A way of doing the tasks of phases, where gateways hold such states from one phase to the next, and a phase comes to such ends.
pub record Way (State Ends : Type 0) : Type 1 where
  -- the entries of the phase of this number, behind that of the clock, with the states before them, their ends and the states after
  pub works : ℕ → Phase → (ℕ → State) → List Entry → Ends → (ℕ → State) → Type 0
  -- all tasks of the phase have come to their ends
  pub is_done : ℕ → Phase → Ends → Type 0

-- the entry that begins a phase
pub record BeginsPhase (phase : Phase) (clock : Entry) : Type 0 where
  pub seat : clock.seat ≡ 0
  pub sets : clock.op ≡ Clock phase.moment

-- The phases from a number on: some first ones of them were begun, each with the clock's setting and then its own entries.
abbrev pub PhasesRun : {State Ends : Type 0} → Way State Ends → ℕ → (ℕ → State) → List Phase → List Entry → List Ends → Type 0
PhasesRun way number before [] entries ends = (entries ≡ []) × (ends ≡ [])
PhasesRun {State} {Ends} way number before (phase ∷ phases) entries ends =
    ((entries ≡ []) × (ends ≡ []))
    ⊎ ((clock : Entry) × (made : List Entry) × (others : List Entry) × (first : Ends)
    × (later : List Ends) × (after : ℕ → State)
    × (entries ≡ clock ∷ made ++ others) × BeginsPhase phase clock
    × way.works number phase before made first after × (ends ≡ first ∷ later)
    × PhasesRun way (number + 1) after phases others later)

-- Each phase behind which another one was begun had come to all its ends.
abbrev pub AreInTurn : {State Ends : Type 0} → Way State Ends → ℕ → List Phase → List Ends → Type 0
AreInTurn way number phases [] = Unit {0}
AreInTurn way number [] (own ∷ ends) = ⊥
AreInTurn way number (phase ∷ phases) (own ∷ ends) =
    (ends ≢ [] → way.is_done number phase own) × AreInTurn way (number + 1) phases ends

-- every phase from a number on was begun, and has come to all its ends
abbrev pub AreFinished : {State Ends : Type 0} → Way State Ends → ℕ → List Phase → List Ends → Type 0
AreFinished way number [] ends = ends ≡ []
AreFinished way number (phase ∷ phases) [] = ⊥
AreFinished way number (phase ∷ phases) (first ∷ later) =
    way.is_done number phase first × AreFinished way (number + 1) phases later

-- no phase from a number on was begun, or that one alone, and it has not come to all its ends
abbrev pub AreUnfinished : {State Ends : Type 0} → Way State Ends → ℕ → List Phase → List Ends → Type 0
AreUnfinished way number phases [] = Unit {0}
AreUnfinished way number [] (own ∷ ends) = ⊥
AreUnfinished way number (phase ∷ phases) (own ∷ ends) = (¬ way.is_done number phase own) × (ends ≡ [])

-- ---- operations that are due

-- An operation of the seat is due in a run that made these entries: whatever the reply to it, its entry goes on with the run.
abbrev pub IsDueAfter : {E : Type 0} → (List Entry → E → Type 0) → ℕ → List Entry → Type 0
IsDueAfter {E} is_run seat made = (op : Op) × IsLawful op × ((seen : Seen) → IsAnswer op seen → (end : E) × is_run (made ++ entry_of seat op seen ∷ []) end)

-- an operation of some seat is due
abbrev pub IsDue : {E : Type 0} → (List Entry → E → Type 0) → List Entry → Type 0
IsDue is_run made = (seat : ℕ) × IsDueAfter is_run seat made

-- An operation is due in the phase after those that came to these ends: the journal with its entry is that of a run of the phases,
-- which has begun no further phase.
abbrev pub IsOperationDue : {State Ends : Type 0} → Way State Ends → (ℕ → State) → List Phase → List Entry → List Ends → Type 0
IsOperationDue {State} {Ends} way before phases journal told =
    IsDue (λ entries (own : Ends). PhasesRun way 0 before phases entries (told ++ own ∷ [])) journal
