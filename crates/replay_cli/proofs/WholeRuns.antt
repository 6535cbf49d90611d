-- Runs in the order of the lines that came to their end, or that the full journal broke off.
use Rattle.std.proofs.Common.{◌≡◌, ℕ, zero, suc, ◌+◌, ◌<◌, ◌≤◌, Bool, List, [], ◌∷◌, ◌++◌, length, take, drop, refl, sym, ◌∙◌, ap, subst, inl, inr, take-append-drop, arith}
use Rattle.std.proofs.Math.Seq.{take-length}
use Rattle.std.specs.Prelude.{◌≢◌, Option, Some, slice_get}
use Rattle.std.specs.List.{list_all}
use Rattle.std.proofs.lemmas.List.{append-nil}
use Rattle.world_core.specs.Keeping.{IsFull}
use Rattle.world_core.specs.Operations.{entry_of}
use Rattle.world_core.specs.Worlds.{IsJournal, IsOfBytes}
use Rattle.world_core.specs.declared.entry.Entry.{Entry}
use Rattle.script_workers.specs.Hands.{gateway_count, gateway_of, hands_of}
use Rattle.script_core.specs.Workers.{workers_of}
use Rattle.script_core.specs.Lawful.{IsLawfulScript}
use Rattle.script_workers.specs.declared.hand.Hand.{Hand}
use Rattle.script_workers.specs.declared.phase.Phase.{Phase}
use Rattle.script_core.specs.declared.script.Script.{Script}
use Rattle.script_workers.specs.declared.task.Task.{Task}
use Rattle.call_verdicts.specs.lifecycle_core.proofs.Assembling.{all_guaranteed}
use Rattle.call_verdicts.specs.lifecycle_core.proofs.phases.PhaseRuns.{ends_of}
use Rattle.call_verdicts.specs.lifecycle_core.proofs.phases.FirstPhases.{no_phase}
use Rattle.call_verdicts.specs.lifecycle_core.proofs.phases.RunsInLine.{by_none, by_parts, ends_by_workers, finished, own_undone, run_by, runs}
use Rattle.call_verdicts.specs.script_running.specs.declared.sight.Sight.{Sight}
use Rattle.line_running.specs.Progress.{IsBrokenAt, PhasesDone, Reached, duties_at}
use Rattle.call_verdicts.specs.script_running.specs.Outcomes.{Outcome, is_as_asked}
use Rattle.call_verdicts.specs.breach_finding.specs.declared.found.Breach.{Breach}
use Rattle.call_verdicts.specs.report_lines.specs.BreachLines.{HasBreach, breach_text}
use Rattle.call_verdicts.specs.Verdicts.{IsFullRun, IsWholeRun}
use Rattle.call_verdicts.specs.report_lines.specs.Telling.{report_of, tasks_of}
use Rattle.call_verdicts.specs.lifecycle_core.specs.Holdings.{Holdings, none_held, with_holding}
use Rattle.call_verdicts.specs.lifecycle_core.specs.InLine.{Duty, InLine, duties_from, in_line, seat_of}
use Rattle.call_verdicts.specs.lifecycle_core.specs.Phases.{IsRunOf, by_workers}
use Rattle.call_verdicts.specs.lifecycle_core.specs.Setting.{Setting}
use Rattle.call_verdicts.specs.lifecycle_core.specs.Tasks.{End}
use Rattle.call_verdicts.specs.lifecycle_core.specs.Ways.{AreUnfinished, IsOperationDue, PhasesRun}
use Rattle.line_running.proofs.PhaseLists.{phases_came, told_ends, told_whole}

front_at : (phases : List Phase) (n k : ℕ) (phase : Phase) → slice_get (take n phases) k ≡ Some phase → slice_get phases k ≡ Some phase
front_at [] zero k phase at = absurd (cc (at))
front_at [] (suc n) k phase at = absurd (cc (at))
front_at (p ∷ ps) zero k phase at = absurd (cc (at))
front_at (p ∷ ps) (suc n) zero phase at = at
front_at (p ∷ ps) (suc n) (suc k) phase at = front_at ps n k phase at

-- the ends of one phase by worker, from those by duty
abbrev last_by : ℕ → Phase → List End → List (List End)
last_by gateways phase own = ends_of (duties_from gateways 0 phase.tasks) own (hands_of gateways phase.tasks)

pub whole_run_of : {R : Type 0} (tells : R → Script → List Task → List Outcome → Type 0) (setting : Setting) (gateways : List Sight) (journal : List Entry) (report : R) (as_asked : Bool) (lines text : List ℕ) → IsLawfulScript setting.script → IsJournal setting.script.rules.tick.ms journal → IsOfBytes journal
    → (r : Reached tells setting (length setting.script.phases) gateways journal report) → as_asked ≡ list_all is_as_asked r.outcomes → lines ≡ report_of setting.script (tasks_of setting.script.phases) r.outcomes → (breach : Option Breach) → HasBreach setting.script journal breach → text ≡ lines ++ breach_text breach → (run : IsWholeRun setting as_asked text journal) × (run.report.outcomes ≡ r.outcomes) × (run.breach ≡ breach)
whole_run_of tells setting gateways journal report as_asked lines text lawful kept bytes r flag told_lines breach breaks is =
    let run : PhasesRun (in_line setting) 0 none_held setting.script.phases journal r.ends =
    subst (λ (l : List (List End)). PhasesRun (in_line setting) 0 none_held setting.script.phases journal l) (append-nil r.ends)
    (subst (λ (es : List Entry). PhasesRun (in_line setting) 0 none_held setting.script.phases es (r.ends ++ [])) (append-nil journal) (r.onward [] [] (no_phase (in_line setting) (length setting.script.phases) r.views (drop (length setting.script.phases) setting.script.phases)))) in
    let told : PhasesDone setting 0 setting.script.phases r.ends r.outcomes = subst (λ (ps : List Phase). PhasesDone setting 0 ps r.ends r.outcomes) (take-length setting.script.phases) r.told in
    let same : (k : ℕ) (p : Phase) → slice_get setting.script.phases k ≡ Some p → slice_get setting.script.phases (0 + k) ≡ Some p = λ k p own. ap (slice_get setting.script.phases) (omega arith) ∙ own in (
      record {
        ends = ends_by_workers (gateway_count setting.script.gateways) setting.script.phases r.ends;
        run = run_by setting journal r.ends lawful kept run;
        guaranteed = all_guaranteed setting journal (ends_by_workers (gateway_count setting.script.gateways) setting.script.phases r.ends) lawful (run_by setting journal r.ends lawful kept run) bytes;
        finished = finished setting lawful 0 setting.script.phases r.ends same (told_whole setting 0 setting.script.phases r.ends r.outcomes told);
        lines = lines;
        breach = breach;
        breaks = breaks;
        text_is = is;
        report = record {
          outcomes = r.outcomes;
          came = phases_came setting lawful 0 setting.script.phases r.ends r.outcomes same told;
          lines = told_lines;
          flag = flag;
        };
      },
      refl,
      refl,
    )

pub whole_run : {R : Type 0} (tells : R → Script → List Task → List Outcome → Type 0) (setting : Setting) (gateways : List Sight) (journal : List Entry) (report : R) (as_asked : Bool) (lines text : List ℕ) → IsLawfulScript setting.script → IsJournal setting.script.rules.tick.ms journal → IsOfBytes journal
    → (r : Reached tells setting (length setting.script.phases) gateways journal report) → as_asked ≡ list_all is_as_asked r.outcomes → lines ≡ report_of setting.script (tasks_of setting.script.phases) r.outcomes → (breach : Option Breach) → HasBreach setting.script journal breach → text ≡ lines ++ breach_text breach → IsWholeRun setting as_asked text journal
whole_run tells setting gateways journal report as_asked lines text lawful kept bytes r flag told_lines breach breaks is =
    (whole_run_of tells setting gateways journal report as_asked lines text lawful kept bytes r flag told_lines breach breaks is).0

left_some : (phases : List Phase) (place : ℕ) → place < length phases → drop place phases ≡ [] → ⊥
left_some [] place below none = absurd (omega (arith, below))
left_some (p ∷ ps) zero below none = absurd (cc (none))
left_some (p ∷ ps) (suc place) below none = left_some ps place (omega (arith, below)) none

drop_front : (phases : List Phase) (n k : ℕ) (phase : Phase) → slice_get (drop n phases) k ≡ Some phase → slice_get phases (n + k) ≡ Some phase
drop_front [] zero k phase at = absurd (cc (at))
drop_front [] (suc n) k phase at = absurd (cc (at))
drop_front (p ∷ ps) zero k phase at = let e : 0 + k ≡ k = omega arith in rw e at
drop_front (p ∷ ps) (suc n) k phase at = let e : suc n + k ≡ suc (n + k) = omega arith in rw e (drop_front ps n k phase at)

front_length : (phases : List Phase) (n : ℕ) → n < length phases → length (take n phases) ≡ n
front_length phases zero below = refl
front_length [] (suc n) below = absurd (omega (arith, below))
front_length (p ∷ ps) (suc n) below = ap suc (front_length ps n (omega (arith, below)))

-- a run has no more ends than duties
few_ends : (setting : Setting) (seat : Hand → ℕ) (before : Holdings) (duties : List Duty) (entries : List Entry) (ends : List End) (after : Holdings) → InLine setting seat before duties entries ends after → length ends ≤ length duties
few_ends setting seat before [] entries ends after run = omega (arith, ap (length {A = End}) run.1)
few_ends setting seat before (duty ∷ duties) entries ends after (inl run) =
    omega (arith, ap (length {A = End}) run.8, few_ends setting seat (with_holding before (gateway_of duty.hand) run.4) duties run.1 run.3 after run.9)
few_ends setting seat before (duty ∷ duties) entries ends after (inr run) = omega (arith, ap (length {A = End}) run.3)

-- so has the phase behind some finished ones
last_few : (setting : Setting) (number : ℕ) (before : Holdings) (phases : List Phase) (phase : Phase) (left : List Phase) (entries : List Entry) (ends : List (List End)) (own : List End) (more : List (List End)) → length ends ≡ length phases
    → PhasesRun (in_line setting) number before (phases ++ phase ∷ left) entries (ends ++ own ∷ more) → length own ≤ length (duties_at setting 0 phase.tasks)
last_few setting number before [] phase left entries [] own more same (inl none) = absurd (cc (none.1))
last_few setting number before [] phase left entries [] own more same (inr run) =
    let first : own ≡ run.3 = cc (run.9) in
    subst (λ (l : List End). length l ≤ length (duties_at setting 0 phase.tasks)) (sym first) (few_ends setting (seat_of (workers_of setting.script number)) before (duties_at setting 0 phase.tasks) run.1 run.3 run.5 run.8)
last_few setting number before [] phase left entries (e ∷ es) own more same run = absurd (cc (same))
last_few setting number before (p ∷ ps) phase left entries [] own more same run = absurd (cc (same))
last_few setting number before (p ∷ ps) phase left entries (e ∷ es) own more same (inl none) = absurd (cc (none.1))
last_few setting number before (p ∷ ps) phase left entries (e ∷ es) own more same (inr run) =
    let later : es ++ own ∷ more ≡ run.4 = cc (run.9) in
    last_few setting (number + 1) run.5 ps phase left run.2 es own more (omega (arith, same)) (subst (PhasesRun (in_line setting) (number + 1) run.5 (ps ++ phase ∷ left) run.2) (sym later) run.10)

less_by : (m n : ℕ) → m ≤ n → (m ≡ n → ⊥) → m < n
less_by m n below differ = omega (arith, below, differ)

unfinished_left : (setting : Setting) → IsLawfulScript setting.script → (place : ℕ) (journal : List Entry) (told : List (List End)) (left : List Phase) (ends : List (List End)) → ((k : ℕ) (p : Phase) → slice_get left k ≡ Some p → slice_get setting.script.phases (place + k) ≡ Some p)
    → place < length setting.script.phases → length told ≡ length (take place setting.script.phases) → PhasesRun (in_line setting) 0 none_held (take place setting.script.phases ++ left) journal (told ++ ends)
    → AreUnfinished (in_line setting) place left ends → AreUnfinished (by_workers setting) (length (take place setting.script.phases)) left (ends_by_workers (gateway_count setting.script.gateways) left ends)
unfolding ends_by_workers
unfinished_left setting lawful place journal told [] [] same below many run short = tt
unfinished_left setting lawful place journal told [] (own ∷ ends) same below many run short = absurd short
unfinished_left setting lawful place journal told (phase ∷ left) [] same below many run short = tt
unfinished_left setting lawful place journal told (phase ∷ left) (own ∷ ends) same below many run short =
    let at : slice_get setting.script.phases (length (take place setting.script.phases)) ≡ Some phase = ap (slice_get setting.script.phases) (omega (arith, front_length setting.script.phases place below)) ∙ same 0 phase refl in
    let less = less_by (length own) (length (duties_at setting 0 phase.tasks)) (last_few setting 0 none_held (take place setting.script.phases) phase left journal told own ends many run) short.0 in
    (λ done. own_undone setting lawful (length (take place setting.script.phases)) phase own at less done, ap (ends_by_workers (gateway_count setting.script.gateways) left) short.1 ∙ by_none (gateway_count setting.script.gateways) left)

-- what is due in line is due in the run, whose finished phases came to the ends that are told
due_run : (setting : Setting) → IsLawfulScript setting.script → (place : ℕ) (journal : List Entry) (ends : List (List End)) (phase : Phase) (left : List Phase) → drop place setting.script.phases ≡ phase ∷ left → length ends ≡ length (take place setting.script.phases)
    → IsOperationDue (in_line setting) none_held setting.script.phases journal ends → IsOperationDue (by_workers setting) none_held setting.script.phases journal (ends_by_workers (gateway_count setting.script.gateways) (take place setting.script.phases) ends)
unfolding ends_by_workers
due_run setting lawful place journal ends phase left are same due =
    let gateways = gateway_count setting.script.gateways in
    let done = take place setting.script.phases in
    let parts : setting.script.phases ≡ done ++ phase ∷ left = sym (take-append-drop place setting.script.phases) ∙ ap (λ (ps : List Phase). done ++ ps) are in (
      due.0,
      (
        due.1.0,
        due.1.1,
        λ seen answer.
            let next = due.1.2 seen answer in
            let run = runs setting lawful 0 none_held setting.script.phases (journal ++ entry_of due.0 due.1.0 seen ∷ []) (ends ++ next.0 ∷ []) (λ k p own. ap (slice_get setting.script.phases) (omega arith) ∙ own) next.1 in
            let told = ap (λ (ps : List Phase). ends_by_workers gateways ps (ends ++ next.0 ∷ [])) parts ∙ by_parts gateways done (phase ∷ left) ends (next.0 ∷ []) same ∙ ap (λ l. ends_by_workers gateways done ends ++ last_by gateways phase next.0 ∷ l) (by_none gateways left) in
            (last_by gateways phase next.0, subst (PhasesRun (by_workers setting) 0 none_held setting.script.phases (journal ++ entry_of due.0 due.1.0 seen ∷ [])) told run),
      ),
    )

due_left : (setting : Setting) → IsLawfulScript setting.script → (place : ℕ) (journal : List Entry) (ends : List (List End)) (left : List Phase) (unfinished : List (List End)) → drop place setting.script.phases ≡ left → length ends ≡ length (take place setting.script.phases)
    → AreUnfinished (in_line setting) place left unfinished → (unfinished ≢ [] → IsOperationDue (in_line setting) none_held setting.script.phases journal ends) → ends_by_workers (gateway_count setting.script.gateways) left unfinished ≢ []
    → IsOperationDue (by_workers setting) none_held setting.script.phases journal (ends_by_workers (gateway_count setting.script.gateways) (take place setting.script.phases) ends)
unfolding ends_by_workers
due_left setting lawful place journal ends [] [] are same short due begun = absurd (begun refl)
due_left setting lawful place journal ends [] (own ∷ more) are same short due begun = absurd short
due_left setting lawful place journal ends (phase ∷ left) [] are same short due begun = absurd (begun (by_none (gateway_count setting.script.gateways) (phase ∷ left)))
due_left setting lawful place journal ends (phase ∷ left) (own ∷ more) are same short due begun = due_run setting lawful place journal ends phase left are same (due (λ none. absurd (cc (none))))

pub full_run : {R : Type 0} (tells : R → Script → List Task → List Outcome → Type 0) (setting : Setting) (place : ℕ) (journal : List Entry) (report : R) (as_asked : Bool) (text : List ℕ) → IsLawfulScript setting.script → IsJournal setting.script.rules.tick.ms journal → IsOfBytes journal → IsFull journal → place < length setting.script.phases
    → (b : IsBrokenAt tells setting place journal report) → as_asked ≡ list_all is_as_asked b.outcomes → text ≡ report_of setting.script (tasks_of (take place setting.script.phases)) b.outcomes → IsFullRun setting text journal
full_run tells setting place journal report as_asked text lawful kept bytes full below b flag told_lines =
    let gateways = gateway_count setting.script.gateways in
    let done = take place setting.script.phases in
    let left = drop place setting.script.phases in
    let same : (k : ℕ) (p : Phase) → slice_get done k ≡ Some p → slice_get setting.script.phases (0 + k) ≡ Some p = λ k p own. ap (slice_get setting.script.phases) (omega arith) ∙ front_at setting.script.phases place k p own in
    let told = ends_by_workers gateways done b.ends in
    let untold = ends_by_workers gateways left b.unfinished in
    let many = told_ends setting 0 done b.ends b.outcomes b.told in
    let parts : ends_by_workers gateways setting.script.phases (b.ends ++ b.unfinished) ≡ told ++ untold =
    ap (λ (ps : List Phase). ends_by_workers gateways ps (b.ends ++ b.unfinished)) (sym (take-append-drop place setting.script.phases)) ∙ by_parts gateways done left b.ends b.unfinished many in
    let run = subst (IsRunOf setting journal) parts (run_by setting journal (b.ends ++ b.unfinished) lawful kept b.run) in
    record {
      done = done;
      told = told;
      cut = record {
        left = left;
        phases = sym (take-append-drop place setting.script.phases);
        more = λ none. left_some setting.script.phases place below none;
        untold = untold;
        run = run;
        finished = finished setting lawful 0 done b.ends same (told_whole setting 0 done b.ends b.outcomes b.told);
        unfinished = unfinished_left setting lawful place journal b.ends left b.unfinished (drop_front setting.script.phases place) below many
            (subst (λ (ps : List Phase). PhasesRun (in_line setting) 0 none_held ps journal (b.ends ++ b.unfinished)) (sym (take-append-drop place setting.script.phases)) b.run) b.left;
        due = due_left setting lawful place journal b.ends left b.unfinished refl many b.left b.due;
      };
      full = full;
      as_asked = as_asked;
      report = record { outcomes = b.outcomes; came = phases_came setting lawful 0 done b.ends b.outcomes same b.told; lines = told_lines; flag = flag };
      guaranteed = all_guaranteed setting journal (told ++ untold) lawful run bytes;
    }

-- what is told of the phases of a run that came to its end is told of all
pub all_told : {R : Type 0} (tells : R → Script → List Task → List Outcome → Type 0) (setting : Setting) (gateways : List Sight) (journal : List Entry) (report : R) → (r : Reached tells setting (length setting.script.phases) gateways journal report) → tells report setting.script (tasks_of setting.script.phases) r.outcomes
all_told tells setting gateways journal report r = subst (λ (ps : List Phase). tells report setting.script (tasks_of ps) r.outcomes) (take-length setting.script.phases) r.report_is
