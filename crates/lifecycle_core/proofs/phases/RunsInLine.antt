-- Runs in the order of the lines are lawful journals.
use Rattle.std.proofs.Common.{◌≡◌, ℕ, suc, ◌+◌, ◌<◌, List, [], ◌∷◌, ◌++◌, length, get_or, refl, sym, ◌∙◌, ap, subst, inl, inr, arith}
use Rattle.std.specs.Prelude.{Some, slice_get}
use Rattle.std.specs.List.{All, AllZip}
use Rattle.std.proofs.lemmas.Option.{slice_get_within, get_or_from_slice_get}
use Rattle.world_core.specs.Worlds.{IsJournal}
use Rattle.world_core.specs.declared.entry.Entry.{Entry}
use Rattle.script_workers.specs.Hands.{gateway_count, gateway_of, hands_of}
use Rattle.script_core.specs.Workers.{seats_before, workers_of}
use Rattle.script_core.specs.Lawful.{IsLawfulPhase, IsLawfulScript, IsLawfulWork}
use Rattle.script_workers.specs.declared.phase.Phase.{Phase}
use Rattle.script_workers.specs.declared.task.Task.{Task}
use Rattle.script_workers.specs.declared.worker.Worker.{Worker}
use Rattle.lifecycle_core.specs.Conducts.{AreDone, CameTo, PhaseRun}
use Rattle.lifecycle_core.specs.Holdings.{Holdings, none_held}
use Rattle.lifecycle_core.specs.InLine.{InLine, IsRunInLine, duties_from, in_line, seat_of}
use Rattle.lifecycle_core.specs.Phases.{IsInTurn, IsRunOf, by_script, by_workers}
use Rattle.lifecycle_core.specs.Setting.{Setting}
use Rattle.lifecycle_core.specs.Tasks.{End}
use Rattle.lifecycle_core.specs.Ways.{AreFinished, AreInTurn, PhasesRun}
use Rattle.script_core.proofs.SeatLaws.{room, workers_at}
use Rattle.lifecycle_core.proofs.phases.PhaseRuns.{ends_of, phase_came, phase_run, phase_done, phase_undone}
use Rattle.lifecycle_core.proofs.phases.TaskRuns.{MayBegin, none_yet}

pub lawful_tasks : (setting : Setting) (number : ℕ) (phase : Phase) → IsLawfulScript setting.script → slice_get setting.script.phases number ≡ Some phase
    → All (λ t. IsLawfulWork setting.script.gateways setting.script.blocks (length setting.script.selectors) t.work) phase.tasks
lawful_tasks setting number phase lawful at =
    let each = (lawful.phases).each number phase (slice_get_within setting.script.phases number phase at) in
    (subst (IsLawfulPhase setting.script.gateways setting.script.blocks (length setting.script.selectors)) (get_or_from_slice_get setting.script.phases number phase phase at) each).tasks

-- lawful tasks may begin
pub may_begin : (setting : Setting) (tasks : List Task) → IsLawfulScript setting.script → All (λ t. IsLawfulWork setting.script.gateways setting.script.blocks (length setting.script.selectors) t.work) tasks → All (λ t. MayBegin setting t.work) tasks
may_begin setting tasks lawful all = λ k d below. none_yet setting (get_or tasks k d).work (lawful.blocks).each (all k d below)

-- the ends of phases by worker, from those by duty
unfoldable pub ends_by_workers : ℕ → List Phase → List (List End) → List (List (List End))
ends_by_workers gateways [] ends = []
ends_by_workers gateways (phase ∷ phases) [] = []
ends_by_workers gateways (phase ∷ phases) (first ∷ later) =
    ends_of (duties_from gateways 0 phase.tasks) first (hands_of gateways phase.tasks) ∷ ends_by_workers gateways phases later

pub by_none : (gateways : ℕ) (phases : List Phase) → ends_by_workers gateways phases [] ≡ []
unfolding ends_by_workers
by_none gateways [] = refl
by_none gateways (phase ∷ phases) = refl

-- the ends of the first phases, and those of the others
pub by_parts : (gateways : ℕ) (done left : List Phase) (ends more : List (List End)) → length ends ≡ length done → ends_by_workers gateways (done ++ left) (ends ++ more) ≡ ends_by_workers gateways done ends ++ ends_by_workers gateways left more
unfolding ends_by_workers
by_parts gateways [] left [] more same = refl
by_parts gateways [] left (first ∷ ends) more same = absurd (omega (arith, same))
by_parts gateways (phase ∷ done) left [] more same = absurd (omega (arith, same))
by_parts gateways (phase ∷ done) left (first ∷ ends) more same =
    ap (λ l. ends_of (duties_from gateways 0 phase.tasks) first (hands_of gateways phase.tasks) ∷ l) (by_parts gateways done left ends more (omega (arith, same)))

-- every phase was begun, and all its duties have come to their ends
abbrev pub AreWhole : ℕ → List Phase → List (List End) → Type 0
AreWhole gateways phases ends = AllZip (λ phase own. length own ≡ length (duties_from gateways 0 phase.tasks)) phases ends

module _ (setting : Setting) (lawful : IsLawfulScript setting.script) where
  own_run : (number : ℕ) (phase : Phase) (views after : Holdings) (made : List Entry) (first : List End) → slice_get setting.script.phases number ≡ Some phase
      → InLine setting (seat_of (workers_of setting.script number)) views (duties_from (gateway_count setting.script.gateways) 0 phase.tasks) made first after
      → PhaseRun (by_script setting) phase.tasks (workers_of setting.script number) views made (ends_of (duties_from (gateway_count setting.script.gateways) 0 phase.tasks) first (hands_of (gateway_count setting.script.gateways) phase.tasks)) after
  own_run number phase views after made first at run =
      let gateways = gateway_count setting.script.gateways in
      let are = workers_at setting.script number phase at in
      let run' = subst (λ (ws : List Worker). InLine setting (seat_of ws) views (duties_from gateways 0 phase.tasks) made first after) are run in
      subst (λ (ws : List Worker). PhaseRun (by_script setting) phase.tasks ws views made (ends_of (duties_from gateways 0 phase.tasks) first (hands_of gateways phase.tasks)) after) (sym are)
      (phase_run setting gateways (seats_before setting.script number) phase.tasks views after made first (room setting.script number phase lawful at) (may_begin setting phase.tasks lawful (lawful_tasks setting number phase lawful at)) run')

  own_done : (number : ℕ) (phase : Phase) (first : List End) → slice_get setting.script.phases number ≡ Some phase → length first ≡ length (duties_from (gateway_count setting.script.gateways) 0 phase.tasks)
      → AreDone (workers_of setting.script number) (ends_of (duties_from (gateway_count setting.script.gateways) 0 phase.tasks) first (hands_of (gateway_count setting.script.gateways) phase.tasks))
  own_done number phase first at same =
      let gateways = gateway_count setting.script.gateways in
      subst (λ (ws : List Worker). AreDone ws (ends_of (duties_from gateways 0 phase.tasks) first (hands_of gateways phase.tasks))) (sym (workers_at setting.script number phase at))
      (phase_done setting gateways (seats_before setting.script number) phase.tasks none_held none_held [] first (room setting.script number phase lawful at) same)

  pub own_undone : (number : ℕ) (phase : Phase) (first : List End) → slice_get setting.script.phases number ≡ Some phase → length first < length (duties_from (gateway_count setting.script.gateways) 0 phase.tasks)
      → AreDone (workers_of setting.script number) (ends_of (duties_from (gateway_count setting.script.gateways) 0 phase.tasks) first (hands_of (gateway_count setting.script.gateways) phase.tasks)) → ⊥
  own_undone number phase first at less done =
      let gateways = gateway_count setting.script.gateways in
      phase_undone setting gateways (seats_before setting.script number) phase.tasks none_held none_held [] first (room setting.script number phase lawful at) less
      (subst (λ (ws : List Worker). AreDone ws (ends_of (duties_from gateways 0 phase.tasks) first (hands_of gateways phase.tasks))) (workers_at setting.script number phase at) done)

  pub own_came : (number : ℕ) (phase : Phase) (first : List End) → slice_get setting.script.phases number ≡ Some phase → length first ≡ length (duties_from (gateway_count setting.script.gateways) 0 phase.tasks)
      → AllZip (λ d e. CameTo (workers_of setting.script number) (ends_of (duties_from (gateway_count setting.script.gateways) 0 phase.tasks) first (hands_of (gateway_count setting.script.gateways) phase.tasks)) (gateway_of d.hand) d.place e)
      (duties_from (gateway_count setting.script.gateways) 0 phase.tasks) first
  own_came number phase first at same =
      let gateways = gateway_count setting.script.gateways in
      subst (λ (ws : List Worker). AllZip (λ d e. CameTo ws (ends_of (duties_from gateways 0 phase.tasks) first (hands_of gateways phase.tasks)) (gateway_of d.hand) d.place e) (duties_from gateways 0 phase.tasks) first)
      (sym (workers_at setting.script number phase at))
      (phase_came setting gateways (seats_before setting.script number) phase.tasks none_held none_held [] first (room setting.script number phase lawful at) same)

  pub runs : (number : ℕ) (views : Holdings) (phases : List Phase) (entries : List Entry) (ends : List (List End)) → ((k : ℕ) (p : Phase) → slice_get phases k ≡ Some p → slice_get setting.script.phases (number + k) ≡ Some p)
      → PhasesRun (in_line setting) number views phases entries ends → PhasesRun (by_workers setting) number views phases entries (ends_by_workers (gateway_count setting.script.gateways) phases ends)
  unfolding ends_by_workers
  runs number views [] entries ends same run = (run.0, refl)
  runs number views (phase ∷ phases) entries ends same (inl r) = inl (r.0, ap (ends_by_workers (gateway_count setting.script.gateways) (phase ∷ phases)) r.1)
  runs number views (phase ∷ phases) entries ends same (inr r) =
      let gateways = gateway_count setting.script.gateways in
      let at : slice_get setting.script.phases number ≡ Some phase = ap (slice_get setting.script.phases) (omega arith) ∙ same 0 phase refl in
      let later : (k : ℕ) (p : Phase) → slice_get phases k ≡ Some p → slice_get setting.script.phases (number + 1 + k) ≡ Some p = λ k p own. ap (slice_get setting.script.phases) (omega arith) ∙ same (suc k) p own in
      inr (
        r.0,
        r.1,
        r.2,
        ends_of (duties_from gateways 0 phase.tasks) r.3 (hands_of gateways phase.tasks),
        ends_by_workers gateways phases r.4,
        r.5,
        r.6,
        r.7,
        own_run number phase views r.5 r.1 r.3 at r.8,
        ap (ends_by_workers gateways (phase ∷ phases)) r.9,
        runs (number + 1) r.5 phases r.2 r.4 later r.10,
      )

  -- each phase behind which another one was begun was done by all workers
  pub in_turn : (number : ℕ) (phases : List Phase) (ends : List (List End)) → ((k : ℕ) (p : Phase) → slice_get phases k ≡ Some p → slice_get setting.script.phases (number + k) ≡ Some p) → AreInTurn (in_line setting) number phases ends
      → AreInTurn (by_workers setting) number phases (ends_by_workers (gateway_count setting.script.gateways) phases ends)
  unfolding ends_by_workers
  in_turn number [] [] same turns = tt
  in_turn number [] (first ∷ ends) same turns = tt
  in_turn number (phase ∷ phases) [] same turns = tt
  in_turn number (phase ∷ phases) (first ∷ ends) same turns =
      let at : slice_get setting.script.phases number ≡ Some phase = ap (slice_get setting.script.phases) (omega arith) ∙ same 0 phase refl in
      let later : (k : ℕ) (p : Phase) → slice_get phases k ≡ Some p → slice_get setting.script.phases (number + 1 + k) ≡ Some p = λ k p own. ap (slice_get setting.script.phases) (omega arith) ∙ same (suc k) p own in (
        λ more. own_done number phase first at (turns.0 (λ none. more (ap (ends_by_workers (gateway_count setting.script.gateways) phases) none ∙ by_none (gateway_count setting.script.gateways) phases))),
        in_turn (number + 1) phases ends later turns.1,
      )

  pub finished : (number : ℕ) (phases : List Phase) (ends : List (List End)) → ((k : ℕ) (p : Phase) → slice_get phases k ≡ Some p → slice_get setting.script.phases (number + k) ≡ Some p) → AreWhole (gateway_count setting.script.gateways) phases ends
      → AreFinished (by_workers setting) number phases (ends_by_workers (gateway_count setting.script.gateways) phases ends)
  unfolding ends_by_workers
  finished number [] [] same whole = refl
  finished number [] (first ∷ ends) same whole = absurd whole
  finished number (phase ∷ phases) [] same whole = absurd whole
  finished number (phase ∷ phases) (first ∷ ends) same whole =
      let at : slice_get setting.script.phases number ≡ Some phase = ap (slice_get setting.script.phases) (omega arith) ∙ same 0 phase refl in
      let later : (k : ℕ) (p : Phase) → slice_get phases k ≡ Some p → slice_get setting.script.phases (number + 1 + k) ≡ Some p = λ k p own. ap (slice_get setting.script.phases) (omega arith) ∙ same (suc k) p own in
      (own_done number phase first at whole.0, finished (number + 1) phases ends later whole.1)

-- phases in the order of the lines are those of a run of the script
pub run_by : (setting : Setting) (journal : List Entry) (ends : List (List End)) → IsLawfulScript setting.script → IsJournal setting.script.rules.tick.ms journal → PhasesRun (in_line setting) 0 none_held setting.script.phases journal ends
    → IsRunOf setting journal (ends_by_workers (gateway_count setting.script.gateways) setting.script.phases ends)
run_by setting journal ends lawful kept run =
    record { kept = kept; phases = runs setting lawful 0 none_held setting.script.phases journal ends (λ k p own. ap (slice_get setting.script.phases) (omega arith) ∙ own) run }

pub turns_by : (setting : Setting) (ends : List (List End)) → IsLawfulScript setting.script → AreInTurn (in_line setting) 0 setting.script.phases ends
    → IsInTurn setting (ends_by_workers (gateway_count setting.script.gateways) setting.script.phases ends)
turns_by setting ends lawful turns = in_turn setting lawful 0 setting.script.phases ends (λ k p own. ap (slice_get setting.script.phases) (omega arith) ∙ own) turns

-- A run that does the tasks in the order of their lines is a run of the script.
pub run_of : (setting : Setting) (journal : List Entry) (ends : List (List End)) → IsLawfulScript setting.script → IsRunInLine setting journal ends
    → IsRunOf setting journal (ends_by_workers (gateway_count setting.script.gateways) setting.script.phases ends)
run_of setting journal ends lawful run = run_by setting journal ends lawful run.kept run.phases
