-- Tasks that are told one after another, by their parts.
use Rattle.std.proofs.Common.{◌≡◌, ℕ, suc, ◌+◌, ◌<◌, ◌≤◌, List, [], ◌∷◌, ◌++◌, length, length-take, get_or, take, refl, sym, ◌∙◌, ap, subst, arith}
use Rattle.std.proofs.lemmas.List.{take_all}
use Rattle.base.proofs.Lists.{take_none, take_place}
use Rattle.script_core.specs.declared.script.Script.{Script}
use Rattle.script_workers.specs.declared.task.Task.{Task}
use Rattle.script_running.specs.Gathering.{AreTold, IsToldBy}
use Rattle.script_running.specs.Outcomes.{Outcome, Part}
use Rattle.script_running.specs.Reporting.{AddsTo}
use Rattle.script_running.proofs.Reporting.{adds_more, adds_none}
use Rattle.script_running.proofs.Taking.{found}

-- tasks from a place on, and one more
told_more : (parts : ℕ → List Part) (place : ℕ) (tasks : List Task) (task : Task) (outcomes : List Outcome) (o : Outcome) → AreTold parts place tasks outcomes → IsToldBy task.work (parts (place + length tasks)) o
    → AreTold parts place (tasks ++ task ∷ []) (outcomes ++ o ∷ [])
told_more parts place [] task [] o told is = let here : place + 0 ≡ place = omega arith in (subst (λ (n : ℕ). IsToldBy task.work (parts n) o) here is, refl)
told_more parts place [] task (p ∷ outcomes) o told is = absurd (cc (told))
told_more parts place (t ∷ tasks) task [] o told is = absurd told
told_more parts place (t ∷ tasks) task (p ∷ outcomes) o told is =
    let there : place + suc (length tasks) ≡ place + 1 + length tasks = omega arith in
    (told.0, told_more parts (place + 1) tasks task outcomes o told.1 (subst (λ (n : ℕ). IsToldBy task.work (parts n) o) there is))

module _ {P : Type 0} (tells : P → Script → List Task → List Outcome → Type 0) (script : Script) (parts : ℕ → List Part) (tasks : List Task) (first : P) where
  -- the first tasks, by their parts, and by the report
  abbrev pub ToldTo : ℕ → P → Type 0
  ToldTo place report = (own : List Outcome) × AreTold parts 0 (take place tasks) own × AddsTo tells script (take place tasks) own first report

  pub told_none : ToldTo 0 first
  told_none = let none = subst (λ (ts : List Task). AreTold parts 0 ts [] × AddsTo tells script ts [] first first) (sym (take_none tasks)) (refl, adds_none tells script first) in ([], none.0, none.1)

  pub told_all : (place : ℕ) (report : P) → length tasks ≤ place → ToldTo place report → (own : List Outcome) × AreTold parts 0 tasks own × AddsTo tells script tasks own first report
  told_all place report all told = let whole = subst (λ (ts : List Task). AreTold parts 0 ts told.0 × AddsTo tells script ts told.0 first report) (take_all place tasks all) (told.1, told.2) in (told.0, whole.0, whole.1)

  -- the tasks so far, and the next one
  pub told_next : (place : ℕ) (task : Task) (old new : P) → place < length tasks → task ≡ get_or tasks place task → ToldTo place old → (o : Outcome) → IsToldBy task.work (parts place) o → AddsTo tells script (task ∷ []) (o ∷ []) old new → ToldTo (place + 1) new
  told_next place task old new within value told o by adds =
      let here : place ≡ 0 + length (take place tasks) = omega (arith, length-take place tasks, within) in
      let more = told_more parts 0 (take place tasks) task told.0 o told.1 (subst (λ (n : ℕ). IsToldBy task.work (parts n) o) here by) in
      let both = subst (λ (l : List Task). AreTold parts 0 l (told.0 ++ o ∷ []) × AddsTo tells script l (told.0 ++ o ∷ []) first new) (sym (take_place tasks place task (found tasks place place task refl within value)))
      (more, adds_more tells script (take place tasks) (task ∷ []) told.0 (o ∷ []) first old new told.2 adds) in
      (told.0 ++ o ∷ [], both.0, both.1)
