-- A run beside whose world came out again is a run of the script.
use Rattle.std.proofs.Common.{◌≡◌, inl, inr, ℕ, ◌+◌, ◌<◌, List, [], ◌∷◌, ◌++◌, length, map, Contains, Some, refl, sym, ◌∙◌, ap, subst, append_assoc, append-nil, arith}
use Rattle.std.specs.Prelude.{Ok, Err, slice_get}
use mathlib.Core.List.{IsPrefix}
use Rattle.base.proofs.Lists.{cons_parts}
use Rattle.base.proofs.Membership.{member_cases, no_member}
use Rattle.world_core.specs.Keeping.{IsFull}
use Rattle.world_core.specs.Worlds.{IsJournal}
use Rattle.world_core.specs.declared.entry.Entry.{Entry}
use Rattle.world_turn.specs.Closing.{AllJoined, Closes}
use Rattle.world_turn.specs.declared.view.View.{View as Known}
use Rattle.script_core.specs.Lawful.{IsLawfulScript}
use Rattle.script_workers.specs.declared.phase.Phase.{Phase}
use Rattle.script_workers.specs.declared.task.Task.{Task}
use Rattle.script_workers.specs.declared.worker.Worker.{Worker}
use Rattle.lifecycle_core.specs.Conducts.{AreDone, who_of}
use Rattle.lifecycle_core.specs.Holdings.{Holdings, holding_of, none_held}
use Rattle.lifecycle_core.specs.Phases.{IsInTurn, IsRunOf, by_script, by_workers}
use Rattle.lifecycle_core.specs.Setting.{Setting}
use Rattle.lifecycle_core.specs.Tasks.{End}
use Rattle.lifecycle_core.specs.Ways.{AreFinished, AreInTurn, IsOperationDue, PhasesRun}
use Rattle.lifecycle_core.proofs.phases.Fronts.{IsCutWell}
use Rattle.lifecycle_core.proofs.phases.Turns.{none_turns, one_turns, turns_behind}
use Rattle.lifecycle_core.proofs.phases.TaskRuns.{tasks_long}
use Rattle.script_running.specs.Begun.{Made, WasBegun, ends_in, workers_in}
use Rattle.script_running.specs.Beside.{CameSoFar, HasRunBeside, IsCutForMemory}
use Rattle.script_running.specs.Cutting.{AreParts, KnowsPhases, Passed}
use Rattle.script_running.specs.Ended.{HasEnded, HaveEnded}
use Rattle.script_running.specs.Going.{HasBrokenOff, HasFinished, HasGone, HasIdled, HasSeenFull, HasStopped, IfFull}
use Rattle.script_running.specs.Outcomes.{Outcome, PhasesCame}
use Rattle.script_running.specs.Workers.{IsBrokenOff, OwnRun}
use Rattle.script_running.specs.declared.came.Broken.{Broken}
use Rattle.script_running.specs.declared.came.Broken.TheVariants as broken
use Rattle.script_running.specs.declared.sight.Sight.{Sight}
use Rattle.script_running.specs.declared.worker.WorkerEnd.{WorkerEnd}
use Rattle.script_running.proofs.Begun.{begun_more, phases_run}
use Rattle.script_running.proofs.Cutting.{parts}
use Rattle.script_running.proofs.Due.{is_due}
use Rattle.script_running.proofs.Ending.{was_begun, was_idle, were_kept}
use Rattle.phase_runner.proofs.Refused.{full_more}

-- ---- a worker that was broken off has not come to all its ends

same_lengths : (w : Worker) (workers : List Worker) (own : List End) (ends : List (List End)) → AreDone (w ∷ workers) (own ∷ ends) → (length w.tasks ≡ length own) × AreDone workers ends
same_lengths w workers own ends done = cons_parts (length w.tasks) (length own) (map (λ (x : Worker). length x.tasks) workers) (map length ends) done

one_short : (setting : Setting) (tasks : List Task) (before : Holdings) (front : List Entry) (one : Made) (end : WorkerEnd) → HasEnded setting tasks before front one end → end.came ≡ Err broken.Full → length one.ends < length one.worker.tasks
one_short setting tasks before front one end h full =
    let b = subst (IsBrokenOff (OwnRun setting (who_of one.worker) (holding_of before one.worker.gateway) (h.was).own) (length (h.was).own) one.worker.seat one.kept.1 one.ends) full h.cut in
    let short = b.0 in
    let long = tasks_long tasks one.worker.tasks (h.was).own (h.was).are in
    omega (arith, short, long)

not_done : (setting : Setting) (tasks : List Task) (before : Holdings) (front : List Entry) (made : List Made) (others : List WorkerEnd) (end : WorkerEnd)
    → HaveEnded setting tasks before front made others → Contains others end → end.came ≡ Err broken.Full → AreDone (workers_in made) (ends_in made) → ⊥
not_done setting tasks before front made [] end have among full done = no_member end among
not_done setting tasks before front [] (o ∷ others) end have among full done = have
not_done setting tasks before front (one ∷ made) (o ∷ others) end have among full done =
    let same = same_lengths one.worker (workers_in made) one.ends (ends_in made) done in elim (member_cases o end others among) [
      | inl here ↦ let short = one_short setting tasks before front one o have.0 (ap (λ (y : WorkerEnd). y.came) here ∙ full) in let long = same.0 in omega (arith, short, long)
      | inr later ↦ not_done setting tasks before front made others end have.1 later full same.1
    ]

-- a front of the root that a worker met is full
met_full : (setting : Setting) (tasks : List Task) (before : Holdings) (front : List Entry) (made : List Made) (others : List WorkerEnd) (end : WorkerEnd)
    → HaveEnded setting tasks before front made others → Contains others end → end.came ≡ Err broken.Full → (seen : List Entry) × IsPrefix seen front × IsFull seen
met_full setting tasks before front made [] end have among full = absurd (no_member end among)
met_full setting tasks before front [] (o ∷ others) end have among full = absurd have
met_full setting tasks before front (one ∷ made) (o ∷ others) end have among full = elim (member_cases o end others among) [
  | inl here ↦ (have.0).full (ap (λ (y : WorkerEnd). y.came) here ∙ full)
  | inr later ↦ met_full setting tasks before front made others end have.1 later full
]

middle : (done : List Phase) (phase : Phase) (left : List Phase) → slice_get (done ++ phase ∷ left) (length done) ≡ Some phase
middle [] phase left = refl
middle (p ∷ done) phase left = middle done phase left

-- ---- the whole run

module _ (setting : Setting) (well : IsCutWell (by_script setting)) (root : Known) (tick : ℕ) (journal : List Entry) (closes : Closes root tick journal) (joined : AllJoined root) (kept : IsJournal setting.script.rules.tick.ms journal) where
  cut : (passed : List Passed) → KnowsPhases root passed → AreParts passed journal
  cut passed knows = parts root tick journal passed closes joined knows kept.numbered

  -- the finished phases are a run, if no other was begun
  run_of : (done left : List Phase) (passed : List Passed) (held : Holdings) → setting.script.phases ≡ done ++ left → (f : HasFinished setting done passed held) → KnowsPhases root passed → IsRunOf setting journal f.told
  run_of done left passed held is f knows = record {
    kept = kept;
    phases = subst (λ (ps : List Phase). PhasesRun (by_workers setting) 0 none_held ps journal f.told) (sym is) (phases_run setting 0 none_held held done left passed f.told journal f.begun (cut passed knows));
  }

  turns_of : (done left : List Phase) (told : List (List (List End))) → setting.script.phases ≡ done ++ left → AreFinished (by_workers setting) 0 done told → IsInTurn setting told
  turns_of done left told is finished = subst (λ (ps : List Phase). AreInTurn (by_workers setting) 0 ps told) (sym is) (subst (λ (es : List (List (List End))). AreInTurn (by_workers setting) 0 (done ++ left) es) (append-nil told) (turns_behind (by_workers setting) 0 (length done) done left told [] (omega arith) finished (none_turns (by_workers setting) (length done) left)))

  pub all_ran : (sights : List Sight) (outcomes : List Outcome) → HasGone setting root setting.script.phases sights outcomes → HasRunBeside setting journal outcomes (Ok tt)
  all_ran sights outcomes gone =
      let f = gone.so_far in
      let is : setting.script.phases ≡ setting.script.phases ++ [] = sym (append-nil setting.script.phases) in
      record {
        ends = f.told;
        run = run_of setting.script.phases [] gone.passed gone.held is f gone.knows;
        turns = turns_of setting.script.phases [] f.told is f.finished;
        far = (f.finished, gone.came);
      }

  -- with a phase that was begun, but not finished
  run_on : (done : List Phase) (phase : Phase) (left : List Phase) (passed : List Passed) (held next : Holdings) (one : Passed) (ends : List (List End)) → setting.script.phases ≡ done ++ phase ∷ left → (f : HasFinished setting done passed held)
      → WasBegun setting (length done) phase held one ends next → KnowsPhases root (passed ++ one ∷ []) → IsRunOf setting journal (f.told ++ ends ∷ [])
  run_on done phase left passed held next one ends is f was knows =
      let first : 0 + length done ≡ length done = omega arith in
      let all = begun_more setting 0 none_held held next done passed f.told phase one ends f.begun (subst (λ (n : ℕ). WasBegun setting n phase held one ends next) (sym first) was) in
      record {
        kept = kept;
        phases = subst (λ (ps : List Phase). PhasesRun (by_workers setting) 0 none_held ps journal (f.told ++ ends ∷ [])) (append_assoc done (phase ∷ []) left ∙ sym is)
            (phases_run setting 0 none_held next (done ++ phase ∷ []) left (passed ++ one ∷ []) (f.told ++ ends ∷ []) journal all (cut (passed ++ one ∷ []) knows));
      }

  turns_on : (done : List Phase) (phase : Phase) (left : List Phase) (told : List (List (List End))) (ends : List (List End)) → setting.script.phases ≡ done ++ phase ∷ left → AreFinished (by_workers setting) 0 done told → IsInTurn setting (told ++ ends ∷ [])
  turns_on done phase left told ends is finished = subst (λ (ps : List Phase). AreInTurn (by_workers setting) 0 ps (told ++ ends ∷ [])) (sym is) (turns_behind (by_workers setting) 0 (length done) done (phase ∷ left) told (ends ∷ []) (omega arith) finished (one_turns (by_workers setting) (length done) phase left ends))

  module _ (done : List Phase) (phase : Phase) (left : List Phase) (is : setting.script.phases ≡ done ++ phase ∷ left) (passed : List Passed) (held : Holdings) (outcomes : List Outcome) (f : HasFinished setting done passed held) where
    -- where memory was wanted, in a phase that was begun
    short_on : PhasesCame setting.script 0 done f.told outcomes → (ends : List (List End)) → IsCutForMemory setting (f.told ++ ends ∷ []) outcomes
    short_on came ends = record { done = done; next = phase; left = left; phases = is; told = f.told; begun = ends ∷ []; parts = refl; few = omega arith; finished = f.finished; came = came }

    far_on : (why : Broken) → PhasesCame setting.script 0 done f.told outcomes → (b : HasBrokenOff setting root done passed held phase why) → IsRunOf setting journal (f.told ++ ends_in b.made ∷ []) → CameSoFar setting journal (f.told ++ ends_in b.made ∷ []) outcomes (Err why)
    far_on broken.NoMemory came b run = short_on came (ends_in b.made)
    far_on broken.Full came b run =
        let seen = met_full setting phase.tasks held root.front b.made b.others b.met.0 b.have b.met.1 b.met.2 in
        let due = subst (λ (ps : List Phase). IsOperationDue (by_workers setting) none_held ps journal f.told) (sym is)
        (is_due setting well held done left phase passed b.one f.told root.front b.seat b.made b.others b.met.0 journal f.begun b.begins b.workers b.kept b.have b.row b.met.1 b.met.2 (cut (passed ++ b.one ∷ []) b.knows)) in
        record {
          full = full_more seen.0 journal (subst (IsPrefix seen.0) closes.front seen.1) seen.2;
          done = done;
          told = f.told;
          cut = record {
            left = phase ∷ left;
            phases = is;
            more = λ none. absurd (cc (none));
            untold = ends_in b.made ∷ [];
            run = run;
            finished = f.finished;
            unfinished = ((λ all. not_done setting phase.tasks held root.front b.made b.others b.met.0 b.have b.met.1 b.met.2 (subst (λ (ws : List Worker). AreDone ws (ends_in b.made)) (sym b.workers) all)), refl);
            due = λ begun. due;
          };
          parts = refl;
          came = came;
        }

    ran_on : (why : Broken) → PhasesCame setting.script 0 done f.told outcomes → HasBrokenOff setting root done passed held phase why → HasRunBeside setting journal outcomes (Err why)
    ran_on why came b =
        let were = were_kept setting phase.tasks held root.front b.made b.others b.have in
        let next = was_begun setting well (length done) phase held b.one b.made b.workers b.kept b.begins were in
        let run = run_on done phase left passed held next.0 b.one (ends_in b.made) is f next.2 b.knows in
        record {
          ends = f.told ++ ends_in b.made ∷ [];
          run = run;
          turns = turns_on done phase left f.told (ends_in b.made) is f.finished;
          far = far_on why came b run;
        }

    idled : IsLawfulScript setting.script → (why : Broken) → PhasesCame setting.script 0 done f.told outcomes → why ≡ broken.NoMemory → HasIdled setting root passed phase → HasRunBeside setting journal outcomes (Err why)
    idled lawful why came wanting b =
        let at : slice_get setting.script.phases (length done) ≡ Some phase = ap (λ (ps : List Phase). slice_get ps (length done)) is ∙ middle done phase left in
        let next = was_idle setting well lawful (length done) phase held b.one at b.begins b.none in
        subst (λ (w : Broken). HasRunBeside setting journal outcomes (Err w)) (sym wanting) (record {
          ends = f.told ++ next.0 ∷ [];
          run = run_on done phase left passed held next.1 b.one next.0 is f next.2 b.knows;
          turns = turns_on done phase left f.told next.0 is f.finished;
          far = short_on came next.0;
        })

  -- no phase was begun behind the finished ones
  before_it : (outcomes : List Outcome) (why : Broken) (s : HasStopped setting root outcomes why) (w : Broken) → IfFull w (HasSeenFull root) → IsRunOf setting journal (s.so_far).told
      → CameSoFar setting journal (s.so_far).told outcomes (Err w)
  before_it outcomes why s broken.NoMemory seen run = record {
    done = s.done;
    next = s.phase;
    left = s.left;
    phases = s.phases;
    told = (s.so_far).told;
    begun = [];
    parts = sym (append-nil (s.so_far).told);
    few = omega arith;
    finished = (s.so_far).finished;
    came = s.came;
  }
  before_it outcomes why s broken.Full seen run =
      let nil : (s.so_far).told ≡ (s.so_far).told ++ [] = sym (append-nil (s.so_far).told) in
      record {
        full = full_more seen.0 journal (subst (IsPrefix seen.0) closes.front seen.1) seen.2;
        done = s.done;
        told = (s.so_far).told;
        cut = record {
          left = s.phase ∷ s.left;
          phases = s.phases;
          more = λ none. absurd (cc (none));
          untold = [];
          run = subst (IsRunOf setting journal) nil run;
          finished = (s.so_far).finished;
          unfinished = tt;
          due = λ begun. absurd (begun refl);
        };
        parts = nil;
        came = s.came;
      }

  pub all_stopped : IsLawfulScript setting.script → (outcomes : List Outcome) (why : Broken) → HasStopped setting root outcomes why → HasRunBeside setting journal outcomes (Err why)
  all_stopped lawful outcomes why s = elim s.stands [
    | inl (knows, seen) ↦
        let run = run_of s.done (s.phase ∷ s.left) s.passed s.held s.phases s.so_far knows in
        record {
          ends = (s.so_far).told;
          run = run;
          turns = turns_of s.done (s.phase ∷ s.left) (s.so_far).told s.phases (s.so_far).finished;
          far = before_it outcomes why s why seen run;
        }
    | inr begun ↦ elim begun [
      | inl b ↦ ran_on s.done s.phase s.left s.phases s.passed s.held outcomes s.so_far why s.came b
      | inr (wanting, b) ↦ idled s.done s.phase s.left s.phases s.passed s.held outcomes s.so_far lawful why s.came wanting b
    ]
  ]
