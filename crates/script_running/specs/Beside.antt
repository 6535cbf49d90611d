-- What a run leaves whose phases' workers are beside each other.
use Rattle.std.specs.Prelude.{◌≡◌, ◌≤◌, ℕ, List, ◌∷◌, ◌++◌, length, Some, Result, Ok, Err, slice_get}
use Rattle.world_core.specs.Keeping.{IsFull}
use Rattle.world_core.specs.declared.entry.Entry.{Entry}
use Rattle.script_workers.specs.declared.phase.Phase.{Phase}
use Rattle.lifecycle_core.specs.Cuts.{IsCutBehind}
use Rattle.lifecycle_core.specs.Holdings.{Holdings}
use Rattle.lifecycle_core.specs.Phases.{IsFinished, IsInTurn, IsRunOf, by_workers}
use Rattle.lifecycle_core.specs.Setting.{Setting}
use Rattle.lifecycle_core.specs.Tasks.{End}
use Rattle.lifecycle_core.specs.Ways.{AreFinished}
use Rattle.script_running.specs.Outcomes.{Outcome, PhasesCame}
use Rattle.script_running.specs.Sights.{Sees}
use Rattle.script_running.specs.declared.came.Broken.{Broken}
use Rattle.script_running.specs.declared.came.Broken.TheVariants as broken
use Rattle.script_running.specs.declared.sight.Sight.{Sight}

-- gateways that hold this see by these
abbrev pub AreSeen : Holdings → List Sight → Type 0
AreSeen held sights = (place : ℕ) (sight : Sight) → slice_get sights place ≡ Some sight → Sees (held place) sight

-- The full journal broke the run off behind some first phases, and these are their outcomes.
pub record IsCutShort (setting : Setting) (journal : List Entry) (ends : List (List (List End))) (outcomes : List Outcome) : Type 0 where
  pub full : IsFull journal
  pub done : List Phase
  pub told : List (List (List End))
  pub cut : IsCutBehind setting journal done told
  pub parts : ends ≡ told ++ cut.untold
  pub came : PhasesCame setting.script 0 done told outcomes

-- Want of memory broke the run off behind some first phases, which are finished, and of those left one was begun at most. These are the
-- outcomes of the finished phases.
pub record IsCutForMemory (setting : Setting) (ends : List (List (List End))) (outcomes : List Outcome) : Type 0 where
  pub done : List Phase
  pub next : Phase
  pub left : List Phase
  pub phases : setting.script.phases ≡ done ++ next ∷ left
  pub told : List (List (List End))
  pub begun : List (List (List End))
  pub parts : ends ≡ told ++ begun
  pub few : length begun ≤ 1
  pub finished : AreFinished (by_workers setting) 0 done told
  pub came : PhasesCame setting.script 0 done told outcomes

-- how far a run came, by what broke it off
abbrev pub CameSoFar : Setting → List Entry → List (List (List End)) → List Outcome → Result (Unit {0}) Broken → Type 0
CameSoFar setting journal ends outcomes (Ok done) =
    IsFinished setting ends × PhasesCame setting.script 0 setting.script.phases ends outcomes
CameSoFar setting journal ends outcomes (Err broken.Full) = IsCutShort setting journal ends outcomes
CameSoFar setting journal ends outcomes (Err broken.NoMemory) = IsCutForMemory setting ends outcomes

-- The journal is that of a run of the script, no phase of which was begun after one that broke off. These outcomes are those of the
-- finished phases, in the order of their lines.
pub record HasRunBeside (setting : Setting) (journal : List Entry) (outcomes : List Outcome) (came : Result (Unit {0}) Broken) : Type 0 where
  pub ends : List (List (List End))
  pub run : IsRunOf setting journal ends
  pub turns : IsInTurn setting ends
  pub far : CameSoFar setting journal ends outcomes came
