-- A worker's job, from its tasks.
use Rattle.std.proofs.Common.{◌≡◌, ℕ, List, [], ◌∷◌, ◌++◌, length, drop, refl, sym, ◌∙◌, ap, subst}
use Rattle.std.specs.Prelude.{Option, Some, None, Err, IfSome, option_map, slice_get}
use Rattle.std.specs.List.{All}
use Rattle.world_core.specs.Keeping.{IsFull}
use Rattle.world_core.specs.declared.entry.Entry.{Entry}
use Rattle.meta_fetcher.specs.declared.view.View.{View}
use Rattle.script_core.specs.Lawful.{IsLawfulPhase, IsLawfulScript, IsLawfulWork}
use Rattle.script_core.specs.declared.script.Script.{Script}
use Rattle.script_workers.specs.declared.phase.Phase.{Phase}
use Rattle.script_workers.specs.declared.task.Task.{Task}
use Rattle.script_workers.specs.declared.worker.Worker.{Worker}
use Rattle.lifecycle_core.specs.Conducts.{Who, who_of, TasksAt}
use Rattle.lifecycle_core.specs.Holdings.{Holding, Use}
use Rattle.lifecycle_core.specs.Setting.{Setting}
use Rattle.script_running.specs.Lending.{setting_in}
use Rattle.script_running.specs.Sights.{Sees, cache_of}
use Rattle.script_running.specs.Workers.{HasWorked, IsAtWork, MayWork, Post, OwnRun}
use Rattle.script_running.specs.declared.came.Broken.TheVariants as broken
use Rattle.script_running.specs.declared.sight.Sight.{Sight}
use Rattle.script_running.specs.declared.worker.WorkerEnd.{WorkerEnd}
use Rattle.base.proofs.Options.{one_value}
use Rattle.base.proofs.Membership.{All-place}

rest : {X : Type 0} (xs ys : List X) → drop (length xs) (xs ++ ys) ≡ ys
rest [] ys = refl
rest (x ∷ xs) ys = rest xs ys

-- something that a worker that sees by this may hold
abbrev uses : Option View → Option Use
uses None = None
uses (Some view) = Some (record { view = view; last = 0 })

uses_it : (view : Option View) → option_map (λ (used : Use). used.view) (uses view) ≡ view
uses_it None = refl
uses_it (Some view) = refl

abbrev holds : Sight → Holding
holds sight = record { used = uses sight.view; cache = cache_of sight.cache }

holds_it : (sight : Sight) → Sees (holds sight) sight
holds_it sight = record { view_is = uses_it sight.view; cache_is = refl }

-- the entries alone, without those of before
alone : (setting : Setting) (tasks : List Task) (who : Who) (places : List ℕ) (before : Holding) (seat : ℕ) (old new : List Entry) (end : WorkerEnd) → HasWorked (TasksAt tasks places) (OwnRun setting who before) seat old new end
    → HasWorked (TasksAt tasks places) (OwnRun setting who before) seat [] (drop (length old) new) end
alone setting tasks who places before seat old new end h = record {
  made = h.made;
  entries = ap (drop (length old)) h.entries ∙ rest old h.made;
  seats = h.seats;
  own = h.own;
  are = h.are;
  ends = h.ends;
  last = h.last;
  run = h.run;
  parts = h.parts;
  sees = h.sees;
  broken = h.broken;
}

gains : (setting : Setting) (tasks : List Task) (who : Who) (places : List ℕ) (before : Holding) (seat : ℕ) (old new : List Entry) (end : WorkerEnd) → HasWorked (TasksAt tasks places) (OwnRun setting who before) seat old new end → new ≡ old ++ drop (length old) new
gains setting tasks who places before seat old new end h = h.entries ∙ ap (λ (l : List Entry). old ++ l) (sym (ap (drop (length old)) h.entries ∙ rest old h.made))

module _ (post : Post) (phase : Phase) (at : slice_get post.loan.script.phases post.phase ≡ Some phase) where
  -- whatever phase has its place, it is this one
  at_place : (held : Holding) (seat : ℕ) (made : List Entry) (end : WorkerEnd) → HasWorked (TasksAt phase.tasks post.worker.tasks) (OwnRun (setting_in post.loan) (who_of post.worker) held) seat [] made end
      → (one : Phase) → slice_get post.loan.script.phases post.phase ≡ Some one → HasWorked (TasksAt one.tasks post.worker.tasks) (OwnRun (setting_in post.loan) (who_of post.worker) held) seat [] made end
  at_place held seat made end h one found =
      subst (λ (p : Phase). HasWorked (TasksAt p.tasks post.worker.tasks) (OwnRun (setting_in post.loan) (who_of post.worker) held) seat [] made end) (one_value phase one (slice_get post.loan.script.phases post.phase) at found) h

  pub may_work : (seat : ℕ) (old new : List Entry) (front : Option (List Entry)) (end : WorkerEnd)
      → ((who : Who) (held : Holding) → who.gateway ≡ post.worker.gateway → Sees held post.sight → HasWorked (TasksAt phase.tasks post.worker.tasks) (OwnRun (setting_in post.loan) who held) seat old new end) → (end.came ≡ Err broken.Full → IfSome front IsFull)
      → (made : List Entry) × (new ≡ old ++ made) × MayWork post seat made front end
  may_work seat old new front end worked full =
      let first = worked (who_of post.worker) (holds post.sight) refl (holds_it post.sight) in (
        drop (length old) new,
        gains (setting_in post.loan) phase.tasks (who_of post.worker) post.worker.tasks (holds post.sight) seat old new end first,
        record {
          worked = λ one held found sees.
              at_place held seat (drop (length old) new) end (alone (setting_in post.loan) phase.tasks (who_of post.worker) post.worker.tasks held seat old new end (worked (who_of post.worker) held refl sees)) one found;
          full = full;
        },
      )

pub allowed : (script : Script) (number : ℕ) (phase : Phase) → IsLawfulScript script → slice_get script.phases number ≡ Some phase → All (λ t. IsLawfulWork script.gateways script.blocks (length script.selectors) t.work) phase.tasks
allowed script number phase lawful at = (All-place (IsLawfulPhase script.gateways script.blocks (length script.selectors)) script.phases number phase (lawful.phases).each at).tasks

-- of a worker's phase
pub allows_all : (script : Script) (number : ℕ) (worker : Worker) (tasks : List Task) → IsAtWork script number worker tasks → All (λ t. IsLawfulWork script.gateways script.blocks (length script.selectors) t.work) tasks
allows_all script number worker tasks a =
    subst (All (λ (t : Task). IsLawfulWork script.gateways script.blocks (length script.selectors) t.work)) (sym a.own) (allowed script number a.phase a.lawful a.at)
