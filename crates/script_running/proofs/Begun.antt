-- Phases that were begun one after another are a run of the script, in whichever order their workers' entries fall.
use Rattle.std.proofs.Common.{◌≡◌, ◌⊎◌, inl, inr, ℕ, ◌+◌, List, [], ◌∷◌, ◌++◌, length, map, Contains, Some, refl, sym, ◌∙◌, ap, subst, arith}
use Rattle.std.specs.List.{All, AllByRecursion, AllZip}
use Rattle.base.proofs.Lists.{cons_same}
use Rattle.std.proofs.lemmas.List.Elements.{All-weaker}
use Rattle.world_core.specs.declared.entry.Entry.{Entry}
use Rattle.script_core.specs.Workers.{workers_of}
use Rattle.script_workers.specs.declared.phase.Phase.{Phase}
use Rattle.script_workers.specs.declared.task.Task.{Task}
use Rattle.script_workers.specs.declared.worker.Worker.{Worker}
use Rattle.world_core.specs.Journals.{of_seat}
use Rattle.lifecycle_core.specs.Conducts.{PhaseRun, TasksRun, WorkerRun, who_of}
use Rattle.lifecycle_core.specs.Holdings.{Holdings, holding_of}
use Rattle.lifecycle_core.specs.Phases.{by_script, by_workers}
use Rattle.lifecycle_core.specs.Setting.{Setting}
use Rattle.lifecycle_core.specs.Tasks.{End}
use Rattle.lifecycle_core.specs.Ways.{PhasesRun}
use Rattle.lifecycle_core.proofs.phases.FirstPhases.{no_phase}
use Rattle.script_running.specs.Begun.{AreLeft, Made, WasBegun, WasKept, WereBegun, WereKept, ends_in, kept_in, workers_in}
use Rattle.script_running.specs.Cutting.{AreParts, Passed}

abbrev Kept : Type 0
Kept = ℕ × List Entry

abbrev Leaves : Holdings → Made → Type 0
Leaves after one = (gateway : ℕ) → one.worker.gateway ≡ Some gateway → after gateway ≡ one.last

-- the workers' seats are those of which entries were kept
pub same_seats : (setting : Setting) (tasks : List Task) (before : Holdings) (made : List Made) → WereKept setting tasks before made → map (λ (k : Kept). k.0) (kept_in made) ≡ map (λ (w : Worker). w.seat) (workers_in made)
same_seats setting tasks before [] were = refl
same_seats setting tasks before (one ∷ made) were = cons_same one.kept.0 one.worker.seat (map (λ (k : Kept). k.0) (kept_in made)) (map (λ (w : Worker). w.seat) (workers_in made)) (were.0).seat (same_seats setting tasks before made were.1)

worker_runs : (setting : Setting) (tasks : List Task) (before after : Holdings) (entries : List Entry) (one : Made) → WasKept setting tasks before one → one.kept.1 ≡ of_seat one.kept.0 entries → Leaves after one
    → WorkerRun (by_script setting) tasks before entries after one.worker one.ends
worker_runs setting tasks before after entries one was is leaves = record {
  own = was.own;
  are = was.are;
  last = one.last;
  runs = subst (λ (es : List Entry). TasksRun (by_script setting) (who_of one.worker) entries (holding_of before one.worker.gateway) was.own es one.ends one.last) (is ∙ ap (λ (seat : ℕ). of_seat seat entries) was.seat) (was.run entries);
  leaves = leaves;
}

workers_run : (setting : Setting) (tasks : List Task) (before after : Holdings) (entries : List Entry) (made : List Made) → WereKept setting tasks before made → AllByRecursion (λ (k : Kept). k.1 ≡ of_seat k.0 entries) (kept_in made) → AllByRecursion (Leaves after) made
    → AllZip (WorkerRun (by_script setting) tasks before entries after) (workers_in made) (ends_in made)
workers_run setting tasks before after entries [] were are left = tt
workers_run setting tasks before after entries (one ∷ made) were are left =
    (worker_runs setting tasks before after entries one were.0 are.0 left.0, workers_run setting tasks before after entries made were.1 are.1 left.1)

-- what was kept of the workers' seats is a run of the phase
pub phase_runs : (setting : Setting) (number : ℕ) (phase : Phase) (before after : Holdings) (made : List Made) → workers_in made ≡ workers_of setting.script number → WereKept setting phase.tasks before made → AreLeft before made after
    → (entries : List Entry) → All (λ e. Contains (map (λ (k : Kept). k.0) (kept_in made)) e.seat) entries → AllByRecursion (λ (k : Kept). k.1 ≡ of_seat k.0 entries) (kept_in made)
    → PhaseRun (by_script setting) phase.tasks (workers_of setting.script number) before entries (ends_in made) after
phase_runs setting number phase before after made staff were left entries seats are =
    let same = same_seats setting phase.tasks before made were in
    subst (λ (ws : List Worker). PhaseRun (by_script setting) phase.tasks ws before entries (ends_in made) after) staff (record {
      seats = All-weaker (λ e. Contains (map (λ (w : Worker). w.seat) (workers_in made)) e.seat) (λ e. Contains (map (λ (w : Worker). w.seat) (workers_in made)) e.seat ⊎ ⊥) (λ e among. inl among) entries
          (subst (λ (ns : List ℕ). All (λ e. Contains ns e.seat) entries) same seats);
      runs = workers_run setting phase.tasks before after entries made were are left.own;
      kept = left.others;
    })

-- the phases behind those that were begun were not
pub phases_run : (setting : Setting) (number : ℕ) (before after : Holdings) (done left : List Phase) (passed : List Passed) (ends : List (List (List End))) (journal : List Entry) → WereBegun setting number before done passed ends after → AreParts passed journal
    → PhasesRun (by_workers setting) number before (done ++ left) journal ends
phases_run setting number before after [] left [] [] journal were parts = subst (λ (es : List Entry). PhasesRun (by_workers setting) number before left es []) (sym parts) (no_phase (by_workers setting) number before left)
phases_run setting number before after [] left [] (own ∷ ends) journal were parts = absurd were
phases_run setting number before after [] left (one ∷ passed) ends journal were parts = absurd were
phases_run setting number before after (phase ∷ done) left [] ends journal were parts = absurd were
phases_run setting number before after (phase ∷ done) left (one ∷ passed) [] journal were parts = absurd were
phases_run setting number before after (phase ∷ done) left (one ∷ passed) (own ∷ ends) journal (next, was, rest) (made, others, is, seats, are, later) =
    inr (one.clock, made, others, own, ends, next, is, was.begins, was.runs made seats are, refl, phases_run setting (number + 1) next after done left passed ends others rest later)

-- one phase more
pub begun_more : (setting : Setting) (number : ℕ) (before after next : Holdings) (done : List Phase) (passed : List Passed) (ends : List (List (List End))) (phase : Phase) (one : Passed) (own : List (List End)) → WereBegun setting number before done passed ends after
    → WasBegun setting (number + length done) phase after one own next → WereBegun setting number before (done ++ phase ∷ []) (passed ++ one ∷ []) (ends ++ own ∷ []) next
begun_more setting number before after next [] [] [] phase one own were was =
    let same : number + 0 ≡ number = omega arith in
    (next, subst (λ (views : Holdings). WasBegun setting number phase views one own next) were (subst (λ (n : ℕ). WasBegun setting n phase after one own next) same was), refl)
begun_more setting number before after next [] [] (x ∷ ends) phase one own were was = absurd were
begun_more setting number before after next [] (x ∷ passed) ends phase one own were was = absurd were
begun_more setting number before after next (x ∷ done) [] ends phase one own were was = absurd were
begun_more setting number before after next (x ∷ done) (y ∷ passed) [] phase one own were was = absurd were
begun_more setting number before after next (x ∷ done) (y ∷ passed) (z ∷ ends) phase one own (mid, first, rest) was =
    let same : number + length (x ∷ done) ≡ (number + 1) + length done = omega arith in
    (mid, first, begun_more setting (number + 1) mid after next done passed ends phase one own rest (subst (λ (n : ℕ). WasBegun setting n phase after one own next) same was))
