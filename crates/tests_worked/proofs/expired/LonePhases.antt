-- Phases of one task each, and runs of such phases one after another.
use Rattle.std.proofs.Common.{◌≡◌, ◌≢◌, inl, inr, ℕ, suc, ◌+◌, List, [], ◌∷◌, ◌++◌, length, map, Contains, Some, None, refl, sym, ◌∙◌, ap, subst, append-nil, lit<}
use Rattle.std.specs.List.{All}
use Rattle.std.proofs.lemmas.List.Elements.{All-head, All-weaker}
use Rattle.world_core.specs.declared.entry.Entry.{Entry}
use Rattle.script_core.specs.Workers.{workers_of}
use Rattle.script_workers.specs.declared.phase.Phase.{Phase}
use Rattle.script_workers.specs.declared.task.Task.{Task}
use Rattle.script_workers.specs.declared.worker.Worker.{Worker}
use Rattle.world_core.specs.Journals.{of_seat}
use Rattle.lifecycle_core.specs.Conducts.{AreDone, PhaseRun}
use Rattle.lifecycle_core.specs.Holdings.{Holding, Holdings, nothing_held}
use Rattle.lifecycle_core.specs.Phases.{by_script, by_workers}
use Rattle.lifecycle_core.specs.Setting.{Setting}
use Rattle.lifecycle_core.specs.Tasks.{End, TaskRun}
use Rattle.lifecycle_core.specs.Ways.{BeginsPhase, PhasesRun}
use Rattle.tests_worked.proofs.small.Each.{by_workers_alone}
use Rattle.tests_worked.proofs.young.YoungBlock.{kept_else, with_held}

-- the worker of a task that is none of a gateway's, and the gateway's
abbrev pub lone : ℕ → Worker
lone seat = record { seat = seat; gateway = None; tasks = 0 ∷ [] }

abbrev pub gateway_at : ℕ → Worker
gateway_at seat = record { seat = seat; gateway = Some 0; tasks = 0 ∷ [] }

abbrev pub IsAt : ℕ → Entry → Type 0
IsAt seat e = e.seat ≡ seat

at_seat : (seat : ℕ) (made : List Entry) → All (IsAt seat) made → All (λ (e : Entry). Contains (seat ∷ []) e.seat) made
at_seat seat made all = All-weaker (IsAt seat) (λ (e : Entry). Contains (seat ∷ []) e.seat) (λ e is. (0, lit< tt, sym is)) made all

module _ (setting : Setting) (task : Task) (seat : ℕ) (made : List Entry) (end : End) (seats : All (IsAt seat) made) (own : of_seat seat made ≡ made) where
  pub lone_phase : (before : Holdings) → TaskRun setting (record { seat = seat; gateway = None }) 0 task.work nothing_held made (Some end) nothing_held
      → PhaseRun (by_script setting) (task ∷ []) (lone seat ∷ []) before made ((end ∷ []) ∷ []) before
  lone_phase before run = record {
    seats = by_workers_alone (seat ∷ []) made (at_seat seat made seats);
    runs = (
      record {
        own = record { place = 0; task = task } ∷ [];
        are = ((refl, refl), refl);
        last = nothing_held;
        runs = inl (made, [], end, [], nothing_held, subst (λ (es : List Entry). es ≡ made ++ []) (sym own) (sym (append-nil made)), run, refl, (refl, refl, refl));
        leaves = λ gateway is. absurd (cc);
      },
      tt,
    );
    kept = λ gateway none. refl;
  }

  pub gateway_phase : (before : Holdings) (last : Holding) → ((other : ℕ) → before (suc other) ≡ nothing_held) → TaskRun setting (record { seat = seat; gateway = Some 0 }) 0 task.work (before 0) made (Some end) last
      → PhaseRun (by_script setting) (task ∷ []) (gateway_at seat ∷ []) before made ((end ∷ []) ∷ []) (with_held last)
  gateway_phase before last none run = record {
    seats = by_workers_alone (seat ∷ []) made (at_seat seat made seats);
    runs = (
      record {
        own = record { place = 0; task = task } ∷ [];
        are = ((refl, refl), refl);
        last = last;
        runs = inl (made, [], end, [], last, subst (λ (es : List Entry). es ≡ made ++ []) (sym own) (sym (append-nil made)), run, refl, (refl, refl, refl));
        leaves = λ other is. let same : 0 ≡ other = cc in subst (λ (x : ℕ). with_held last x ≡ last) same refl;
      },
      tt,
    );
    kept = λ other differ. kept_else last before none other (All-head (λ (w : Worker). w.gateway ≢ Some other) (gateway_at seat) [] differ);
  }

-- a phase, and those that follow it
pub goes_on : (setting : Setting) (number : ℕ) (before after : Holdings) (phase : Phase) (phases : List Phase) (clock : Entry) (made others : List Entry) (told : List (List End)) (more : List (List (List End))) (workers : List Worker)
    → workers_of setting.script number ≡ workers → BeginsPhase phase clock → PhaseRun (by_script setting) phase.tasks workers before made told after → PhasesRun (by_workers setting) (number + 1) after phases others more
    → PhasesRun (by_workers setting) number before (phase ∷ phases) (clock ∷ made ++ others) (told ∷ more)
goes_on setting number before after phase phases clock made others told more workers are begins run rest =
    inr (clock, made, others, told, more, after, refl, begins, subst (λ (ws : List Worker). PhaseRun (by_script setting) phase.tasks ws before made told after) (sym are) run, refl, rest)

pub done_by : (workers : List Worker) (own : Worker) (end : End) → workers ≡ own ∷ [] → own.tasks ≡ 0 ∷ [] → AreDone workers ((end ∷ []) ∷ [])
done_by workers own end are one = ap (map (λ (w : Worker). length w.tasks)) are ∙ ap (λ (ts : List ℕ). length ts ∷ []) one
