-- Phases that were done one after another.
use Rattle.std.proofs.Common.{◌≡◌, ℕ, zero, suc, ◌+◌, ◌-◌, ◌<◌, List, [], ◌∷◌, ◌++◌, length, take, drop, get_or, refl, sym, ◌∙◌, ap, subst, inr, append_assoc, take-append-drop, arith}
use Rattle.std.specs.Prelude.{◌≢◌, ◌^◌, min, Some, Result, Ok, Err, OnErr, OnOk, slice_get}
use Rattle.std.specs.List.{All}
use Rattle.std.proofs.lemmas.List.{append-nil, length-append, length-take}
use Rattle.std.proofs.lemmas.Option.{slice_get_within, slice_get-get_or, get_or_from_slice_get}
use Rattle.world_core.specs.Operations.{entry_of}
use Rattle.world_core.specs.Worlds.{IsJournal, IsOfBytes}
use Rattle.world_core.specs.declared.entry.Entry.{Entry}
use Rattle.script_workers.specs.Hands.{gateway_count, seats_after, seats_from}
use Rattle.script_core.specs.Workers.{seats_before, workers_of}
use Rattle.script_core.specs.Lawful.{IsLawfulPhase, IsLawfulScript}
use Rattle.script_workers.specs.declared.worker.Worker.{Worker}
use Rattle.script_workers.specs.declared.phase.Phase.{Phase}
use Rattle.script_core.specs.declared.script.Script.{Script}
use Rattle.script_workers.specs.declared.task.Task.{Task}
use Rattle.report_lines.specs.lifecycle_core.proofs.Assembling.{all_guaranteed}
use Rattle.report_lines.specs.lifecycle_core.proofs.phases.FirstPhases.{no_phase}
use Rattle.report_lines.specs.lifecycle_core.proofs.phases.NextSeats.{seats_behind, upto}
use Rattle.report_lines.specs.lifecycle_core.proofs.phases.Turns.{none_turns, one_turns, turns_behind, unfinished_turns}
use Rattle.report_lines.specs.lifecycle_core.proofs.phases.RunsInLine.{AreWhole, ends_by_workers, own_came, run_by, turns_by}
use Rattle.report_lines.specs.script_running.specs.Outcomes.{Outcome, PhasesCame}
use Rattle.report_lines.specs.script_running.specs.Sights.{Sees, no_sight}
use Rattle.report_lines.specs.script_running.specs.declared.sight.Sight.{Sight}
use Rattle.line_running.specs.Progress.{HasRun, IsBrokenAt, IsDueInLine, IsShortAt, PhaseStep, PhasesDone, Reached, RunCame, TasksBroken, TasksDone, TasksTold, duties_at}
use Rattle.report_lines.specs.script_running.specs.Beside.{AreSeen}
use Rattle.report_lines.specs.Telling.{tasks_of}
use Rattle.report_lines.specs.script_running.specs.declared.came.Broken.{Broken}
use Rattle.report_lines.specs.script_running.specs.declared.came.Broken.TheVariants as broken
use Rattle.report_lines.proofs.ReportLists.{tasks_append}
use Rattle.line_running.proofs.Steps.{line}
use Rattle.line_running.proofs.Told.{tasks_came, told_length, told_outcomes}
use Rattle.report_lines.specs.lifecycle_core.specs.Guarantees.{IsGuaranteedJournal}
use Rattle.report_lines.specs.lifecycle_core.specs.Holdings.{Holdings, none_held, nothing_held}
use Rattle.report_lines.specs.lifecycle_core.specs.InLine.{InLine, IsInLine, in_line, seat_of}
use Rattle.report_lines.specs.lifecycle_core.specs.Setting.{Setting}
use Rattle.report_lines.specs.lifecycle_core.specs.Tasks.{End}
use Rattle.report_lines.specs.lifecycle_core.specs.Ways.{AreFinished, AreInTurn, AreUnfinished, BeginsPhase, IsOperationDue, PhasesRun}
use Rattle.base.proofs.Lists.{take_none, drop_none}

-- ---- lists

drop_at : (phases : List Phase) (place : ℕ) (phase : Phase) → slice_get phases place ≡ Some phase → drop place phases ≡ phase ∷ drop (place + 1) phases
drop_at [] place phase at = absurd (cc (at))
drop_at (p ∷ ps) zero phase at = let same : p ≡ phase = cc (at) in ap (λ (x : Phase). x ∷ ps) same
drop_at (p ∷ ps) (suc place) phase at = let e : suc place + 1 ≡ suc (place + 1) = omega arith in rw e (drop_at ps place phase at)

-- the phase at a place of a list that was lent
pub phase_at : (phases lent : List Phase) (place : ℕ) (phase : Phase) → lent ≡ phases → place < length phases → phase ≡ get_or lent place phase → slice_get phases place ≡ Some phase
phase_at phases lent place phase same within is =
    slice_get-get_or phases place phase within ∙ ap (λ (p : Phase). Some p) (ap (λ (ps : List Phase). get_or ps place phase) (sym same) ∙ sym is)

-- ---- what phases told

told_more : (setting : Setting) (number : ℕ) (phases : List Phase) (phase : Phase) (ends : List (List End)) (own : List End) (outcomes first : List Outcome) → PhasesDone setting number phases ends outcomes → TasksTold setting 0 phase.tasks own first
    → PhasesDone setting number (phases ++ phase ∷ []) (ends ++ own ∷ []) (outcomes ++ first)
told_more setting number [] phase [] own outcomes first told one = (first, [], ap (λ (l : List Outcome). l ++ first) told.1 ∙ sym (append-nil first), one, (refl, refl))
told_more setting number [] phase (e ∷ es) own outcomes first told one = absurd (cc (told.0))
told_more setting number (p ∷ ps) phase [] own outcomes first told one = absurd told
told_more setting number (p ∷ ps) phase (e ∷ es) own outcomes first told one =
    (told.0, told.1 ++ first, ap (λ (l : List Outcome). l ++ first) told.2 ∙ append_assoc told.0 told.1 first, told.3, told_more setting (number + 1) ps phase es own told.1 first told.4 one)

pub told_count : (setting : Setting) (number : ℕ) (phases : List Phase) (ends : List (List End)) (outcomes : List Outcome) → PhasesDone setting number phases ends outcomes → length outcomes ≡ length (tasks_of phases)
told_count setting number [] ends outcomes told = ap (length {A = Outcome}) told.1
told_count setting number (p ∷ ps) [] outcomes told = absurd told
told_count setting number (p ∷ ps) (e ∷ es) outcomes told =
    omega (arith, ap (length {A = Outcome}) told.2, length-append told.0 told.1, length-append p.tasks (tasks_of ps), told_outcomes setting 0 p.tasks e told.0 told.3, told_count setting (number + 1) ps es told.1 told.4)

pub told_ends : (setting : Setting) (number : ℕ) (phases : List Phase) (ends : List (List End)) (outcomes : List Outcome) → PhasesDone setting number phases ends outcomes → length ends ≡ length phases
told_ends setting number [] ends outcomes told = ap (length {A = List End}) told.0
told_ends setting number (p ∷ ps) [] outcomes told = absurd told
told_ends setting number (p ∷ ps) (e ∷ es) outcomes told = ap suc (told_ends setting (number + 1) ps es told.1 told.4)

pub told_whole : (setting : Setting) (number : ℕ) (phases : List Phase) (ends : List (List End)) (outcomes : List Outcome) → PhasesDone setting number phases ends outcomes → AreWhole (gateway_count setting.script.gateways) phases ends
told_whole setting number [] [] outcomes told = tt
told_whole setting number [] (e ∷ es) outcomes told = absurd (cc (told.0))
told_whole setting number (p ∷ ps) [] outcomes told = absurd told
told_whole setting number (p ∷ ps) (e ∷ es) outcomes told = (told_length setting 0 p.tasks e told.0 told.3, told_whole setting (number + 1) ps es told.1 told.4)

pub phases_came : (setting : Setting) → IsLawfulScript setting.script → (number : ℕ) (phases : List Phase) (ends : List (List End)) (outcomes : List Outcome)
    → ((k : ℕ) (p : Phase) → slice_get phases k ≡ Some p → slice_get setting.script.phases (number + k) ≡ Some p) → PhasesDone setting number phases ends outcomes
    → PhasesCame setting.script number phases (ends_by_workers (gateway_count setting.script.gateways) phases ends) outcomes
unfolding ends_by_workers
phases_came setting lawful number [] ends outcomes same told = (refl, told.1)
phases_came setting lawful number (phase ∷ phases) [] outcomes same told = absurd told
phases_came setting lawful number (phase ∷ phases) (first ∷ later) outcomes same told =
    let at : slice_get setting.script.phases number ≡ Some phase = ap (slice_get setting.script.phases) (omega arith) ∙ same 0 phase refl in
    let next : (k : ℕ) (p : Phase) → slice_get phases k ≡ Some p → slice_get setting.script.phases (number + 1 + k) ≡ Some p = λ k p own. ap (slice_get setting.script.phases) (omega arith) ∙ same (suc k) p own in (
      told.0,
      told.1,
      told.2,
      tasks_came setting (workers_of setting.script number) _ 0 phase.tasks first told.0 told.3 (own_came setting lawful number phase first at (told_length setting 0 phase.tasks first told.0 told.3)),
      phases_came setting lawful (number + 1) phases later told.1 next told.4,
    )

-- ---- phases in turn

-- phases that were all done are finished, and what is begun behind them is in turn
whole_finished : (setting : Setting) (number : ℕ) (phases : List Phase) (ends : List (List End)) → AreWhole (gateway_count setting.script.gateways) phases ends → AreFinished (in_line setting) number phases ends
whole_finished setting number [] [] whole = refl
whole_finished setting number [] (e ∷ es) whole = absurd whole
whole_finished setting number (p ∷ ps) [] whole = absurd whole
whole_finished setting number (p ∷ ps) (e ∷ es) whole = (whole.0, whole_finished setting (number + 1) ps es whole.1)

whole_turns : (setting : Setting) (place : ℕ) (phases left : List Phase) (ends later : List (List End)) → length phases ≡ place → AreWhole (gateway_count setting.script.gateways) phases ends → AreInTurn (in_line setting) place left later → AreInTurn (in_line setting) 0 (phases ++ left) (ends ++ later)
whole_turns setting place phases left ends later is whole behind = turns_behind (in_line setting) 0 place phases left ends later (omega (arith, is)) (whole_finished setting 0 phases ends whole) behind

too_few : (m n : ℕ) → m < n → m ≡ n → ⊥
too_few m n less same = absurd (omega (arith, less, same))

-- ---- from one phase to the next

module _ {R : Type 0} (tells : R → Script → List Task → List Outcome → Type 0) (setting : Setting) (place : ℕ) (phase : Phase) (shown : List Sight) (journal : List Entry) (report : R) (at : slice_get setting.script.phases place ≡ Some phase) where
  -- the phase was not begun
  pub unbegun : (gateways : List Sight) → Reached tells setting place shown journal report → IsBrokenAt tells setting place journal report
  unbegun gateways r = record {
    ends = r.ends;
    unfinished = [];
    left = tt;
    due = λ more. absurd (more refl);
    run = subst (λ (es : List Entry). PhasesRun (in_line setting) 0 none_held setting.script.phases es (r.ends ++ [])) (append-nil journal) (r.onward [] [] (no_phase (in_line setting) place r.views (drop place setting.script.phases)));
    outcomes = r.outcomes;
    told = r.told;
    report_is = r.report_is;
  }

  -- the phase with its clock's setting and its tasks, and what follows it
  begun : (r : Reached tells setting place shown journal report) (clock : Entry) (made rest : List Entry) (own : List End) (later : List (List End)) (after : Holdings) (gone : List Entry) → BeginsPhase phase clock
      → InLine setting (seat_of (workers_of setting.script place)) r.views (duties_at setting 0 phase.tasks) made own after
      → PhasesRun (in_line setting) (place + 1) after (drop (place + 1) setting.script.phases) rest later
      → gone ≡ (journal ++ clock ∷ []) ++ made → PhasesRun (in_line setting) 0 none_held setting.script.phases (gone ++ rest) (r.ends ++ own ∷ later)
  begun r clock made rest own later after gone begins run next same =
      let here : PhasesRun (in_line setting) place r.views (drop place setting.script.phases) (clock ∷ made ++ rest) (own ∷ later) =
      subst (λ (ps : List Phase). PhasesRun (in_line setting) place r.views ps (clock ∷ made ++ rest) (own ∷ later)) (sym (drop_at setting.script.phases place phase at))
      (inr (clock, made, rest, own, later, after, refl, begins, run, refl, next)) in
      let e : journal ++ (clock ∷ made ++ rest) ≡ gone ++ rest =
      sym (append_assoc journal (clock ∷ []) (made ++ rest)) ∙ sym (append_assoc (journal ++ clock ∷ []) made rest) ∙ ap (λ (l : List Entry). l ++ rest) (sym same) in
      subst (λ (es : List Entry). PhasesRun (in_line setting) 0 none_held setting.script.phases es (r.ends ++ own ∷ later)) e (r.onward (clock ∷ made ++ rest) (own ∷ later) here)

  -- the phase was broken off
  broken_run : (clock : Entry) (new made : List Entry) (ends : List End) (after : Holdings) → BeginsPhase phase clock → (r : Reached tells setting place shown journal report)
      → InLine setting (seat_of (workers_of setting.script place)) r.views (duties_at setting 0 phase.tasks) made ends after → new ≡ (journal ++ clock ∷ []) ++ made → PhasesRun (in_line setting) 0 none_held setting.script.phases new (r.ends ++ ends ∷ [])
  broken_run clock new made ends after begins r run same =
      subst (λ (es : List Entry). PhasesRun (in_line setting) 0 none_held setting.script.phases es (r.ends ++ ends ∷ [])) (append-nil new) (begun r clock made [] ends [] after new begins run (no_phase (in_line setting) (place + 1) after (drop (place + 1) setting.script.phases)) same)

  -- an operation that is due in its tasks is due in the run
  broken_due : (clock : Entry) (new made : List Entry) → BeginsPhase phase clock → (r : Reached tells setting place shown journal report)
      → IsDueInLine setting (seat_of (workers_of setting.script place)) r.views (duties_at setting 0 phase.tasks) made → new ≡ (journal ++ clock ∷ []) ++ made → IsOperationDue (in_line setting) none_held setting.script.phases new r.ends
  broken_due clock new made begins r due same = (
    due.0,
    (
      due.1.0,
      due.1.1,
      λ seen answer.
          let e = entry_of due.0 due.1.0 seen in
          let next = due.1.2 seen answer in
          (next.0.0, broken_run clock (new ++ e ∷ []) (made ++ e ∷ []) next.0.0 next.0.1 begins r next.1 (ap (λ (es : List Entry). es ++ e ∷ []) same ∙ append_assoc (journal ++ clock ∷ []) made (e ∷ []))),
    ),
  )

  pub broken_off : (clock : Entry) (new : List Entry) → BeginsPhase phase clock → (r : Reached tells setting place shown journal report)
      → ((v : Holdings) → AreSeen v shown → TasksBroken (line setting (seat_of (workers_of setting.script place))) phase.tasks v (journal ++ clock ∷ []) new broken.Full) → IsBrokenAt tells setting place new report
  broken_off clock new begins r tasks =
      let t = tasks r.views r.shows in
      record {
        ends = r.ends;
        unfinished = t.ends ∷ [];
        left = subst (λ (ps : List Phase). AreUnfinished (in_line setting) place ps (t.ends ∷ [])) (sym (drop_at setting.script.phases place phase at)) (λ done. too_few _ _ t.short.0 done, refl);
        due = λ more. broken_due clock new t.made begins r t.short.1 t.entries;
        run = broken_run clock new t.made t.ends t.after begins r t.run t.entries;
        outcomes = r.outcomes;
        told = r.told;
        report_is = r.report_is;
      }

  -- memory was wanted in the phase, which came to these ends. This is still the report of those before it
  pub short_at : (clock : Entry) (new made : List Entry) (ends : List End) (after : Holdings) (more : R) → BeginsPhase phase clock → (r : Reached tells setting place shown journal report)
      → InLine setting (seat_of (workers_of setting.script place)) r.views (duties_at setting 0 phase.tasks) made ends after → new ≡ (journal ++ clock ∷ []) ++ made → tells more setting.script (tasks_of (take place setting.script.phases)) r.outcomes
      → IsShortAt tells setting place new more
  short_at clock new made ends after more begins r run same told =
      let front = sym (take-append-drop place setting.script.phases) ∙ ap (λ (ps : List Phase). take place setting.script.phases ++ ps) (drop_at setting.script.phases place phase at) in
      record {
        ends = r.ends;
        begun = ends ∷ [];
        few = omega arith;
        run = broken_run clock new made ends after begins r run same;
        turns = subst (λ (ps : List Phase). AreInTurn (in_line setting) 0 ps (r.ends ++ ends ∷ [])) (sym front)
            (whole_turns setting (length (take place setting.script.phases)) (take place setting.script.phases) (phase ∷ drop (place + 1) setting.script.phases) r.ends (ends ∷ []) refl (told_whole setting 0 (take place setting.script.phases) r.ends r.outcomes r.told)
            (one_turns (in_line setting) (length (take place setting.script.phases)) phase (drop (place + 1) setting.script.phases) ends));
        outcomes = r.outcomes;
        told = r.told;
        report_is = told;
      }

  pub broken_short : (clock : Entry) (new : List Entry) → BeginsPhase phase clock → (r : Reached tells setting place shown journal report)
      → ((v : Holdings) → AreSeen v shown → TasksBroken (line setting (seat_of (workers_of setting.script place))) phase.tasks v (journal ++ clock ∷ []) new broken.NoMemory) → IsShortAt tells setting place new report
  broken_short clock new begins r tasks = let t = tasks r.views r.shows in short_at clock new t.made t.ends t.after report begins r t.run t.entries r.report_is

  -- the phase was done to its end
  pub reached_more : (clock : Entry) (new : List Entry) (gateways : List Sight) (own more : R) → BeginsPhase phase clock → (r : Reached tells setting place shown journal report)
      → ((v : Holdings) → AreSeen v shown → TasksDone (tells own) (line setting (seat_of (workers_of setting.script place))) phase.tasks v gateways (journal ++ clock ∷ []) new)
      → ((done tasks : List Task) (first later : List Outcome) → tells report setting.script done first → tells own setting.script tasks later → tells more setting.script (done ++ tasks) (first ++ later))
      → Reached tells setting (place + 1) gateways new more
  reached_more clock new gateways own more begins r tasks joins =
      let t = tasks r.views r.shows in
      let front = upto setting.script.phases place phase at in
      record {
        views = t.after;
        shows = t.shows;
        ends = r.ends ++ t.ends ∷ [];
        onward = λ entries later next. subst (λ (l : List (List End)). PhasesRun (in_line setting) 0 none_held setting.script.phases (new ++ entries) l) (sym (append_assoc r.ends (t.ends ∷ []) later))
            (begun r clock t.made entries t.ends later t.after new begins t.run next t.entries);
        outcomes = r.outcomes ++ t.outcomes;
        told = subst (λ (ps : List Phase). PhasesDone setting 0 ps (r.ends ++ t.ends ∷ []) (r.outcomes ++ t.outcomes)) (sym front) (told_more setting 0 (take place setting.script.phases) phase r.ends t.ends r.outcomes t.outcomes r.told t.told);
        report_is = subst (λ (ts : List Task). tells more setting.script ts (r.outcomes ++ t.outcomes)) (sym (ap tasks_of front ∙ tasks_append (take place setting.script.phases) (phase ∷ []) ∙ ap (λ (l : List Task). tasks_of (take place setting.script.phases) ++ l) (append-nil phase.tasks)))
            (joins (tasks_of (take place setting.script.phases)) phase.tasks r.outcomes t.outcomes r.report_is t.report_is);
      }

-- memory was wanted before a phase was begun
pub short_before : {R : Type 0} (tells : R → Script → List Task → List Outcome → Type 0) (setting : Setting) (place : ℕ) (shown : List Sight) (journal : List Entry) (report : R) → Reached tells setting place shown journal report → IsShortAt tells setting place journal report
short_before tells setting place shown journal report r = record {
  ends = r.ends;
  begun = [];
  few = omega arith;
  run = subst (λ (es : List Entry). PhasesRun (in_line setting) 0 none_held setting.script.phases es (r.ends ++ [])) (append-nil journal) (r.onward [] [] (no_phase (in_line setting) place r.views (drop place setting.script.phases)));
  turns = subst (λ (ps : List Phase). AreInTurn (in_line setting) 0 ps (r.ends ++ [])) (take-append-drop place setting.script.phases)
      (whole_turns setting (length (take place setting.script.phases)) (take place setting.script.phases) (drop place setting.script.phases) r.ends [] refl (told_whole setting 0 (take place setting.script.phases) r.ends r.outcomes r.told)
      (none_turns (in_line setting) (length (take place setting.script.phases)) (drop place setting.script.phases)));
  outcomes = r.outcomes;
  told = r.told;
  report_is = r.report_is;
}

pub short_run : {R : Type 0} (tells : R → Script → List Task → List Outcome → Type 0) (setting : Setting) (place : ℕ) (journal : List Entry) (report : R) → IsShortAt tells setting place journal report → HasRun setting journal
short_run tells setting place journal report s = (s.ends ++ s.begun, s.run, s.turns)

pub run_so_far : {R : Type 0} (tells : R → Script → List Task → List Outcome → Type 0) (setting : Setting) (place : ℕ) (shown : List Sight) (journal : List Entry) (report : R) → Reached tells setting place shown journal report → HasRun setting journal
run_so_far tells setting place shown journal report r = short_run tells setting place journal report (short_before tells setting place shown journal report r)

blind_at : (gateways : List Sight) (place : ℕ) (gateway : Sight) → All (λ (g : Sight). g ≡ no_sight) gateways → slice_get gateways place ≡ Some gateway → gateway ≡ no_sight
blind_at gateways place gateway blind at =
    subst (λ (g : Sight). g ≡ no_sight) (get_or_from_slice_get gateways place gateway gateway at) (blind place gateway (slice_get_within gateways place gateway at))

pub no_seats : (setting : Setting) (workers : ℕ) → workers ≡ 0 → workers ≡ seats_before setting.script 0
unfolding seats_from
no_seats setting workers none = none ∙ sym (ap (seats_from (gateway_count setting.script.gateways) 0) (take_none setting.script.phases))

-- nothing was done yet
pub no_run : {R : Type 0} (tells : R → Script → List Task → List Outcome → Type 0) (setting : Setting) (journal : List Entry) (report : R) → journal ≡ [] → tells report setting.script [] [] → IsShortAt tells setting 0 journal report
no_run tells setting journal report none empty = record {
  ends = [];
  begun = [];
  few = omega arith;
  run = subst (λ (es : List Entry). PhasesRun (in_line setting) 0 none_held setting.script.phases es []) (sym none) (no_phase (in_line setting) 0 none_held setting.script.phases);
  turns = tt;
  outcomes = [];
  told = subst (λ (ps : List Phase). PhasesDone setting 0 ps [] []) (sym (take_none setting.script.phases)) (refl, refl);
  report_is = subst (λ (ps : List Phase). tells report setting.script (tasks_of ps) []) (sym (take_none setting.script.phases)) empty;
}

-- before the first phase
pub reached_none : {R : Type 0} (tells : R → Script → List Task → List Outcome → Type 0) (setting : Setting) (gateways : List Sight) (journal : List Entry) (report : R) → All (λ (g : Sight). g ≡ no_sight) gateways → journal ≡ [] → tells report setting.script [] []
    → Reached tells setting 0 gateways journal report
reached_none tells setting gateways journal report blind none empty = record {
  views = none_held;
  shows = λ place gateway at. subst (Sees nothing_held) (sym (blind_at gateways place gateway blind at)) (record { view_is = refl; cache_is = refl });
  ends = [];
  onward = λ entries later run. subst (λ (ps : List Phase). PhasesRun (in_line setting) 0 none_held ps (journal ++ entries) later) (drop_none setting.script.phases)
      (subst (λ (es : List Entry). PhasesRun (in_line setting) 0 none_held (drop 0 setting.script.phases) (es ++ entries) later) (sym none) run);
  outcomes = [];
  told = subst (λ (ps : List Phase). PhasesDone setting 0 ps [] []) (sym (take_none setting.script.phases)) (refl, refl);
  report_is = subst (λ (ps : List Phase). tells report setting.script (tasks_of ps) []) (sym (take_none setting.script.phases)) empty;
}

-- what a run came to is a run in line
pub run_in_line : {R : Type 0} (tells : R → Script → List Task → List Outcome → Type 0) (setting : Setting) (gateways : List Sight) (journal : List Entry) (report : R) (r : Result (Unit {0}) Broken) → IsJournal setting.script.rules.tick.ms journal → RunCame tells setting gateways journal report r → IsInLine setting journal
run_in_line tells setting gateways journal report (Ok done) kept came =
    let run = run_so_far tells setting (length setting.script.phases) gateways journal report came in
    (run.0, record { kept = kept; phases = run.1; turns = run.2 })
run_in_line tells setting gateways journal report (Err broken.Full) kept (place, below, b) = (
  b.ends ++ b.unfinished,
  record {
    kept = kept;
    phases = b.run;
    turns = subst (λ (ps : List Phase). AreInTurn (in_line setting) 0 ps (b.ends ++ b.unfinished)) (take-append-drop place setting.script.phases)
        (whole_turns setting place (take place setting.script.phases) (drop place setting.script.phases) b.ends b.unfinished (omega (arith, below, length-take place setting.script.phases)) (told_whole setting 0 (take place setting.script.phases) b.ends b.outcomes b.told)
        (unfinished_turns (in_line setting) place (drop place setting.script.phases) b.unfinished b.left));
  },
)
run_in_line tells setting gateways journal report (Err broken.NoMemory) kept came = let run = short_run tells setting came.0 journal report came.1 in (run.0, record { kept = kept; phases = run.1; turns = run.2 })

pub guaranteed_run : (setting : Setting) (journal : List Entry) → IsLawfulScript setting.script → IsJournal setting.script.rules.tick.ms journal → IsOfBytes journal → HasRun setting journal → IsGuaranteedJournal setting journal
guaranteed_run setting journal lawful kept bytes run =
    let ends = ends_by_workers (gateway_count setting.script.gateways) setting.script.phases run.0 in
    let whole = run_by setting journal run.0 lawful kept run.1 in (ends, whole, turns_by setting run.0 lawful run.2, all_guaranteed setting journal ends lawful whole bytes)

-- ---- what a phase's call leaves

pub lawful_phase : (setting : Setting) (place : ℕ) (phase : Phase) → IsLawfulScript setting.script → slice_get setting.script.phases place ≡ Some phase → IsLawfulPhase setting.script.gateways setting.script.blocks (length setting.script.selectors) phase
lawful_phase setting place phase lawful at =
    subst (IsLawfulPhase setting.script.gateways setting.script.blocks (length setting.script.selectors)) (get_or_from_slice_get setting.script.phases place phase phase at) ((lawful.phases).each place phase (slice_get_within setting.script.phases place phase at))

pub unbegun_step : {R : Type 0} (tells : R → Script → List Task → List Outcome → Type 0) (setting : Setting) (place : ℕ) (phase : Phase) (shown gateways : List Sight) (journal new : List Entry) (report : R) (b : Broken) → slice_get setting.script.phases place ≡ Some phase → new ≡ journal
    → Reached tells setting place shown journal report → PhaseStep tells setting place gateways new report (Err b)
unbegun_step tells setting place phase shown gateways journal new report broken.Full at same r = subst (λ (es : List Entry). IsBrokenAt tells setting place es report) (sym same) (unbegun tells setting place phase shown journal report at gateways r)
unbegun_step tells setting place phase shown gateways journal new report broken.NoMemory at same r = subst (λ (es : List Entry). IsShortAt tells setting place es report) (sym same) (short_before tells setting place shown journal report r)

pub broken_step : {R : Type 0} (tells : R → Script → List Task → List Outcome → Type 0) (setting : Setting) (place : ℕ) (phase : Phase) (shown gateways : List Sight) (journal new : List Entry) (report same : R) (b : Broken) (clock : Entry) → slice_get setting.script.phases place ≡ Some phase
    → same ≡ report → BeginsPhase phase clock → (r : Reached tells setting place shown journal report)
    → ((v : Holdings) → AreSeen v shown → TasksBroken (line setting (seat_of (workers_of setting.script place))) phase.tasks v (journal ++ clock ∷ []) new b) → PhaseStep tells setting place gateways new same (Err b)
broken_step {R} tells setting place phase shown gateways journal new report same broken.Full clock at is begins r tasks =
    subst (λ (x : R). IsBrokenAt tells setting place new x) (sym is) (broken_off tells setting place phase shown journal report at clock new begins r tasks)
broken_step {R} tells setting place phase shown gateways journal new report same broken.NoMemory clock at is begins r tasks =
    subst (λ (x : R). IsShortAt tells setting place new x) (sym is) (broken_short tells setting place phase shown journal report at clock new begins r tasks)

pub taken_step : {R : Type 0} (tells : R → Script → List Task → List Outcome → Type 0) (setting : Setting) (place : ℕ) (phase : Phase) (shown gateways : List Sight) (journal new : List Entry) (report mid own more : R) (r : Result (Unit {0}) Broken) (clock : Entry) → r ≢ Err broken.Full
    → slice_get setting.script.phases place ≡ Some phase → BeginsPhase phase clock → Reached tells setting place shown journal report
    → ((v : Holdings) → AreSeen v shown → TasksDone (tells own) (line setting (seat_of (workers_of setting.script place))) phase.tasks v gateways (journal ++ clock ∷ []) new)
    → mid ≡ report → ((done tasks : List Task) (first later : List Outcome) → tells mid setting.script done first → tells own setting.script tasks later → OnOk r (tells more setting.script (done ++ tasks) (first ++ later)))
    → ((done : List Task) (first : List Outcome) → tells mid setting.script done first → OnErr r (tells more setting.script done first))
    → PhaseStep tells setting place gateways new more r
taken_step {R} tells setting place phase shown gateways journal new report mid own more (Ok done) clock never at begins reached tasks same joins keeps =
    reached_more tells setting place phase shown journal report at clock new gateways own more begins reached tasks
    (λ done ts first later one two. joins done ts first later (subst (λ (x : R). tells x setting.script done first) (sym same) one) two)
taken_step tells setting place phase shown gateways journal new report mid own more (Err broken.Full) clock never at begins reached tasks same joins keeps = absurd (never refl)
taken_step {R} tells setting place phase shown gateways journal new report mid own more (Err broken.NoMemory) clock never at begins reached tasks same joins keeps =
    let t = tasks reached.views reached.shows in
    short_at tells setting place phase shown journal report at clock new t.made t.ends t.after more begins reached t.run t.entries
    (keeps (tasks_of (take place setting.script.phases)) reached.outcomes (subst (λ (x : R). tells x setting.script (tasks_of (take place setting.script.phases)) reached.outcomes) (sym same) reached.report_is))

-- the seats before the next phase
pub seats_next : (setting : Setting) (place : ℕ) (phase : Phase) (workers : List Worker) (before count after : ℕ) → slice_get setting.script.phases place ≡ Some phase → workers ≡ workers_of setting.script place → before ≡ seats_before setting.script place
    → count ≡ min (length workers) (2 ^ 32 - 1) → after ≡ min (before + count) (2 ^ 32 - 1) → after ≡ seats_before setting.script (place + 1)
seats_next setting place phase workers before count after at are is counted next =
    let n : length workers ≡ length (workers_of setting.script place) = ap (length {A = Worker}) are in
    let f : after ≡ seats_after (seats_before setting.script place) (length (workers_of setting.script place)) = omega (arith, n, is, counted, next) in
    f ∙ sym (seats_behind setting.script place phase at)

pub done_from : {R : Type 0} (tells : R → Script → List Task → List Outcome → Type 0) (setting : Setting) (place : ℕ) (phase : Phase) (shown gateways : List Sight) (journal mid new : List Entry) (own : R) (workers : List Worker) (tasks : List Task) (clock : Entry)
    → workers ≡ workers_of setting.script place → tasks ≡ phase.tasks → mid ≡ journal ++ clock ∷ []
    → ((v : Holdings) → AreSeen v shown → TasksDone (tells own) (line setting (seat_of workers)) tasks v gateways mid new)
    → (v : Holdings) → AreSeen v shown → TasksDone (tells own) (line setting (seat_of (workers_of setting.script place))) phase.tasks v gateways (journal ++ clock ∷ []) new
done_from tells setting place phase shown gateways journal mid new own workers tasks clock w t m done = λ v shows.
    subst (λ (ws : List Worker). TasksDone (tells own) (line setting (seat_of ws)) phase.tasks v gateways (journal ++ clock ∷ []) new) w
    (subst (λ (ts : List Task). TasksDone (tells own) (line setting (seat_of workers)) ts v gateways (journal ++ clock ∷ []) new) t
    (subst (λ (es : List Entry). TasksDone (tells own) (line setting (seat_of workers)) tasks v gateways es new) m (done v shows)))

pub broken_from : (setting : Setting) (place : ℕ) (phase : Phase) (shown : List Sight) (journal mid new : List Entry) (why : Broken) (workers : List Worker) (tasks : List Task) (clock : Entry)
    → workers ≡ workers_of setting.script place → tasks ≡ phase.tasks → mid ≡ journal ++ clock ∷ []
    → ((v : Holdings) → AreSeen v shown → TasksBroken (line setting (seat_of workers)) tasks v mid new why)
    → (v : Holdings) → AreSeen v shown → TasksBroken (line setting (seat_of (workers_of setting.script place))) phase.tasks v (journal ++ clock ∷ []) new why
broken_from setting place phase shown journal mid new why workers tasks clock w t m done = λ v shows.
    subst (λ (ws : List Worker). TasksBroken (line setting (seat_of ws)) phase.tasks v (journal ++ clock ∷ []) new why) w
    (subst (λ (ts : List Task). TasksBroken (line setting (seat_of workers)) ts v (journal ++ clock ∷ []) new why) t
    (subst (λ (es : List Entry). TasksBroken (line setting (seat_of workers)) tasks v es new why) m (done v shows)))
