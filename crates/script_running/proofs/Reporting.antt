-- What a report tells of the first phases.
use Rattle.std.proofs.Common.{◌≡◌, ◌≢◌, ℕ, List, [], ◌∷◌, ◌++◌, take, drop, refl, sym, ◌∙◌, ap, subst, take-append-drop, append-nil, append_assoc}
use Rattle.std.specs.Prelude.{Ok, Err, Result}
use Rattle.world_turn.specs.declared.view.View.{View as Known}
use Rattle.script_core.specs.declared.script.Script.{Script}
use Rattle.script_workers.specs.declared.phase.Phase.{Phase}
use Rattle.script_workers.specs.declared.task.Task.{Task}
use Rattle.lifecycle_core.specs.Setting.{Setting}
use Rattle.script_running.specs.Going.{HasBroken, HasReached, HasStopped}
use Rattle.script_running.specs.Reporting.{AddsTo, HasToldFirst, tasks_in}
use Rattle.script_running.specs.declared.came.Broken.{Broken}
use Rattle.script_running.specs.declared.came.Broken.TheVariants as broken
use Rattle.script_running.specs.declared.progress.Progress.{Progress}
use Rattle.script_running.specs.Outcomes.{Outcome}

-- one phase more
pub tasks_more : (phases : List Phase) (phase : Phase) → tasks_in phases ++ phase.tasks ≡ tasks_in (phases ++ phase ∷ [])
tasks_more [] phase = sym (append-nil phase.tasks)
tasks_more (p ∷ phases) phase = append_assoc p.tasks (tasks_in phases) phase.tasks ∙ ap (λ (l : List Task). p.tasks ++ l) (tasks_more phases phase)

-- the full journal left the report as it was
pub still_same : {P : Type 0} (report now : P) (why : Broken) → (◌≡◌ {A = Result (Unit {0}) Broken} (Err why) (Err broken.Full) → now ≡ report) → ◌≢◌ {A = Result (Unit {0}) Broken} (Err why) (Err broken.NoMemory) → report ≡ now
still_same report now broken.Full same never = sym (same refl)
still_same report now broken.NoMemory same never = absurd (never refl)

module _ {P : Type 0} (tells : P → Script → List Task → List Outcome → Type 0) where
  pub adds_none : (script : Script) (report : P) → AddsTo tells script [] [] report report
  adds_none script report = λ before outcomes told.
      subst (λ (ts : List Task). tells report script ts (outcomes ++ [])) (sym (append-nil before)) (subst (λ (os : List Outcome). tells report script before os) (sym (append-nil outcomes)) told)

  pub adds_more : (script : Script) (tasks more : List Task) (own others : List Outcome) (first next last : P) → AddsTo tells script tasks own first next → AddsTo tells script more others next last → AddsTo tells script (tasks ++ more) (own ++ others) first last
  adds_more script tasks more own others first next last one two = λ before outcomes told.
      subst (λ (ts : List Task). tells last script ts (outcomes ++ (own ++ others))) (append_assoc before tasks more)
      (subst (λ (os : List Outcome). tells last script ((before ++ tasks) ++ more) os) (append_assoc outcomes own others) (two (before ++ tasks) (outcomes ++ own) (one before outcomes told)))

  -- a run that broke off behind the first phases
  pub broke_so : (setting : Setting) (place : ℕ) (before now : Known) (old : Progress P) (report : P) (why : Broken) (r : HasReached tells setting before (take place setting.script.phases) old) → HasStopped setting now r.outcomes why
      → (◌≢◌ {A = Result (Unit {0}) Broken} (Err why) (Err broken.NoMemory) → old.report ≡ report) → HasBroken tells setting now report why
  broke_so setting place before now old report why r stopped same = record {
    outcomes = r.outcomes;
    stopped = stopped;
    told = (old.report, same, (take place setting.script.phases, drop place setting.script.phases, sym (take-append-drop place setting.script.phases), r.told));
  }

  -- a run that no phase broke off
  pub told_whole : (setting : Setting) (root : Known) (progress : Progress P) (r : HasReached tells setting root setting.script.phases progress) → HasToldFirst tells setting.script progress.report r.outcomes (Ok tt)
  told_whole setting root progress r = (progress.report, (λ never. refl), (setting.script.phases, [], sym (append-nil setting.script.phases), r.told))
