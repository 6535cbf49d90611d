-- What a run comes to whose phases' workers were beside each other.
use Rattle.std.proofs.Common.{◌≡◌, ℕ, ◌+◌, Bool, true, false, List, [], ◌∷◌, ◌++◌, length, refl, sym, ◌∙◌, ap, subst, arith}
use Rattle.std.specs.Prelude.{Some, Result, Ok, Err}
use Rattle.std.specs.List.{list_all}
use Rattle.std.proofs.lemmas.List.{length-append}
use Rattle.std.proofs.lemmas.List.Concat.{flat_map-append}
use Rattle.bucket_core.specs.Contents.{nothing}
use Rattle.world_core.specs.Worlds.{IsOfBytes}
use Rattle.world_core.specs.declared.entry.Entry.{Entry}
use Rattle.script_core.specs.Lawful.{IsLawfulScript}
use Rattle.script_core.specs.Workers.{workers_of}
use Rattle.script_core.specs.declared.script.Script.{Script}
use Rattle.script_workers.specs.declared.phase.Phase.{Phase}
use Rattle.script_workers.specs.declared.task.Task.{Task}
use Rattle.script_workers.specs.declared.worker.Worker.{Worker}
use Rattle.call_verdicts.specs.lifecycle_core.specs.Setting.{Setting}
use Rattle.call_verdicts.specs.lifecycle_core.specs.Tasks.{End}
use Rattle.call_verdicts.specs.lifecycle_core.specs.Guarantees.{IsGuaranteedJournal}
use Rattle.call_verdicts.specs.lifecycle_core.proofs.Assembling.{all_guaranteed, none_guaranteed}
use Rattle.call_verdicts.specs.script_running.specs.Beside.{HasRunBeside}
use Rattle.call_verdicts.specs.script_running.specs.Reporting.{HasToldFirst, TellsFirst}
use Rattle.call_verdicts.specs.script_running.specs.Outcomes.{Outcome, PhasesCame, TasksCame, is_as_asked}
use Rattle.call_verdicts.specs.script_running.specs.declared.came.Broken.{Broken}
use Rattle.call_verdicts.specs.script_running.specs.declared.came.Broken.TheVariants as broken
use Rattle.call_verdicts.specs.report_lines.specs.Reports.{activity_text}
use Rattle.replay_cli.specs.InPhases.{IsInPhases}
use Rattle.call_verdicts.specs.report_lines.specs.Telling.{AreLinesOf}
use Rattle.replay_cli.specs.Endings.{EndsReport}
use Rattle.call_verdicts.specs.Verdicts.{IsRun}
use Rattle.call_verdicts.specs.report_lines.specs.Telling.{report_of, tasks_of}
use Rattle.call_verdicts.specs.report_lines.specs.declared.lines.Lines.{Lines}
use Rattle.replay_cli.proofs.NoneInPhases.{none_in_phases}
use Rattle.replay_cli.proofs.Wanted.{IsTold}
use Rattle.call_verdicts.specs.report_lines.proofs.ToldLines.{told_none}
use Rattle.call_verdicts.specs.declared.verdict.Verdict.{Verdict}
use Rattle.call_verdicts.specs.declared.verdict.Verdict.TheVariants as verdict

-- ---- the report of the finished phases

count_tasks : (script : Script) (workers : List Worker) (ends : List (List End)) (place : ℕ) (tasks : List Task) (outcomes : List Outcome) → TasksCame script workers ends place tasks outcomes → length outcomes ≡ length tasks
count_tasks script workers ends place [] outcomes came = ap length came
count_tasks script workers ends place (task ∷ tasks) [] came = absurd came
count_tasks script workers ends place (task ∷ tasks) (o ∷ outcomes) came = let rest = count_tasks script workers ends (place + 1) tasks outcomes came.1 in omega (arith, rest)

-- where there are as many outcomes as tasks, the tasks behind them are not told
told_front : (script : Script) (tasks more : List Task) (outcomes : List Outcome) → length outcomes ≡ length tasks → report_of script (tasks ++ more) outcomes ≡ report_of script tasks outcomes
unfolding report_of
told_front script [] more [] same = told_none script more
told_front script [] more (o ∷ outcomes) same = absurd (omega (arith, same))
told_front script (task ∷ tasks) more [] same = refl
told_front script (task ∷ tasks) more (o ∷ outcomes) same = ap (λ l. activity_text script task.work o ++ l) (told_front script tasks more outcomes (omega (arith, same)))

count_phases : (script : Script) (number : ℕ) (phases : List Phase) (ends : List (List (List End))) (outcomes : List Outcome) → PhasesCame script number phases ends outcomes → length outcomes ≡ length (tasks_of phases)
count_phases script number [] ends outcomes came = ap length came.1
count_phases script number (phase ∷ phases) [] outcomes came = absurd came
count_phases script number (phase ∷ phases) (first ∷ later) outcomes (own, others, is, here, rest) =
    let one = count_tasks script (workers_of script number) first 0 phase.tasks own here in
    let more = count_phases script (number + 1) phases later others rest in
    let both : length outcomes ≡ length own + length others = ap length is ∙ length-append own others in
    let parts = length-append phase.tasks (tasks_of phases) in
    omega (arith, one, more, both, parts)

-- the lines of all phases are those of the finished ones, if no other has an outcome
lines_of_done : (script : Script) (done left : List Phase) (told : List (List (List End))) (outcomes : List Outcome) → script.phases ≡ done ++ left → PhasesCame script 0 done told outcomes → report_of script (tasks_of script.phases) outcomes ≡ report_of script (tasks_of done) outcomes
lines_of_done script done left told outcomes is came =
    ap (λ (ts : List Task). report_of script ts outcomes) (ap tasks_of is ∙ flat_map-append (λ (phase : Phase). phase.tasks) done left) ∙ told_front script (tasks_of done) (tasks_of left) outcomes (count_phases script 0 done told outcomes came)

-- what the lines of some first phases tell is the report of all, as far as there are outcomes
lines_told : (script : Script) (lines : Lines) (outcomes : List Outcome) → TellsFirst AreLinesOf script lines outcomes
    → (lines.text.items ≡ report_of script (tasks_of script.phases) outcomes) × (lines.as_asked ≡ list_all is_as_asked outcomes)
lines_told script lines outcomes (done, left, is, are) = (
  are.text ∙ sym (told_front script (tasks_of done) (tasks_of left) outcomes are.each)
      ∙ ap (λ (ts : List Task). report_of script ts outcomes) (sym (ap tasks_of is ∙ flat_map-append (λ (phase : Phase). phase.tasks) done left)),
  are.flag,
)

-- what a report tells that has such lines, its lines tell
pub told_by : {P : Type 0} (lines : P → Lines) (script : Script) (report : P) (outcomes : List Outcome) (came : Result (Unit {0}) Broken)
    → HasToldFirst (λ (p : P). AreLinesOf (lines p)) script report outcomes came → HasToldFirst AreLinesOf script (lines report) outcomes came
told_by lines script report outcomes came (told, same, first) = (lines told, (λ never. ap lines (same never)), first)

module _ (setting : Setting) (lawful : IsLawfulScript setting.script) (journal : List Entry) (bytes : IsOfBytes journal) (outcomes : List Outcome) (report : Lines) (lines : report.text.items ≡ report_of setting.script (tasks_of setting.script.phases) outcomes) (flag : report.as_asked ≡ list_all is_as_asked outcomes) where
  -- the script was done to its end
  pub whole_beside : HasRunBeside setting journal outcomes (Ok tt) → (v : Verdict) → EndsReport setting.script journal report v → IsRun IsInPhases setting (Some nothing) ⊥ (Some journal) v
  whole_beside r (verdict.Report text as_asked) (same, breach, breaks, is) = (
    refl,
    (
      (r.ends, r.run, r.turns),
      record {
        ends = r.ends;
        run = r.run;
        finished = r.far.0;
        lines = report.text.items;
        report = record { outcomes = outcomes; came = r.far.1; lines = lines; flag = same ∙ flag };
        breach = breach;
        breaks = breaks;
        text_is = is;
        guaranteed = all_guaranteed setting journal r.ends lawful r.run bytes;
      },
    ),
  )
  whole_beside r verdict.NoMemory ends = ((r.ends, r.run, r.turns), (r.ends, r.run, r.turns, all_guaranteed setting journal r.ends lawful r.run bytes))
  whole_beside r other ends = absurd ends

  -- the journal became full
  pub full_beside : HasRunBeside setting journal outcomes (Err broken.Full) → IsRun IsInPhases setting (Some nothing) ⊥ (Some journal) (verdict.Full report.text)
  full_beside r = let f = r.far in (
    refl,
    (
      (r.ends, r.run, r.turns),
      record {
        done = f.done;
        told = f.told;
        cut = f.cut;
        full = f.full;
        as_asked = report.as_asked;
        report = record { outcomes = outcomes; came = f.came; lines = lines ∙ lines_of_done setting.script f.done (f.cut).left f.told outcomes (f.cut).phases f.came; flag = flag };
        guaranteed = all_guaranteed setting journal (f.told ++ (f.cut).untold) lawful (f.cut).run bytes;
      },
    ),
  )

-- memory ran out
pub short_beside : (setting : Setting) → IsLawfulScript setting.script → (journal : List Entry) → IsOfBytes journal → (outcomes : List Outcome) (came : Result (Unit {0}) Broken) → HasRunBeside setting journal outcomes came → IsRun IsInPhases setting (Some nothing) ⊥ (Some journal) verdict.NoMemory
short_beside setting lawful journal bytes outcomes came r = ((r.ends, r.run, r.turns), (r.ends, r.run, r.turns, all_guaranteed setting journal r.ends lawful r.run bytes))

-- what a run beside comes to has its cause, unless memory was wanted in an operation
beside_by : (setting : Setting) → IsLawfulScript setting.script → (journal : List Entry) → IsOfBytes journal → (outcomes : List Outcome) (report : Lines) (came : Result (Unit {0}) Broken) (v : Verdict)
    → HasToldFirst AreLinesOf setting.script report outcomes came → HasRunBeside setting journal outcomes came → (came ≡ Ok tt → EndsReport setting.script journal report v) → (came ≡ Err broken.Full → v ≡ verdict.Full report.text) → (came ≡ Err broken.NoMemory → v ≡ verdict.NoMemory)
    → IsRun IsInPhases setting (Some nothing) ⊥ (Some journal) v
beside_by setting lawful journal bytes outcomes report (Ok done) v told ran whole full none =
    let first = subst (λ (lines : Lines). TellsFirst AreLinesOf setting.script lines outcomes) (told.1 (λ e. absurd (cc (e)))) told.2 in
    let t = lines_told setting.script report outcomes first in
    whole_beside setting lawful journal bytes outcomes report t.0 t.1 ran v (whole refl)
beside_by setting lawful journal bytes outcomes report (Err broken.Full) v told ran whole full none =
    let first = subst (λ (lines : Lines). TellsFirst AreLinesOf setting.script lines outcomes) (told.1 (λ e. absurd (cc (e)))) told.2 in
    let t = lines_told setting.script report outcomes first in
    subst (IsRun IsInPhases setting (Some nothing) ⊥ (Some journal)) (sym (full refl)) (full_beside setting lawful journal bytes outcomes report t.0 t.1 ran)
beside_by setting lawful journal bytes outcomes report (Err broken.NoMemory) v told ran whole full none =
    subst (IsRun IsInPhases setting (Some nothing) ⊥ (Some journal)) (sym (none refl)) (short_beside setting lawful journal bytes outcomes (Err broken.NoMemory) ran)

-- and if it was
pub beside_told : (setting : Setting) → IsLawfulScript setting.script → (journal : List Entry) → IsOfBytes journal → (outcomes : List Outcome) (report : Lines) (wanted : Bool) (came now : Result (Unit {0}) Broken) (v : Verdict) → IsTold wanted came now
    → HasToldFirst AreLinesOf setting.script report outcomes came → HasRunBeside setting journal outcomes came → (now ≡ Ok tt → EndsReport setting.script journal report v) → (now ≡ Err broken.Full → v ≡ verdict.Full report.text) → (now ≡ Err broken.NoMemory → v ≡ verdict.NoMemory)
    → IsRun IsInPhases setting (Some nothing) ⊥ (Some journal) v
beside_told setting lawful journal bytes outcomes report true came now v is told ran whole full none =
    subst (IsRun IsInPhases setting (Some nothing) ⊥ (Some journal)) (sym (none is)) (short_beside setting lawful journal bytes outcomes came ran)
beside_told setting lawful journal bytes outcomes report false came now v is told ran whole full none =
    beside_by setting lawful journal bytes outcomes report came v told ran (λ e. whole (is ∙ e)) (λ e. full (is ∙ e)) (λ e. none (is ∙ e))

-- nothing was begun
pub none_beside : (setting : Setting) (journal : List Entry) → journal ≡ [] → IsRun IsInPhases setting (Some nothing) ⊥ (Some journal) verdict.NoMemory
none_beside setting journal none = subst (λ (es : List Entry). IsInPhases setting es × IsGuaranteedJournal setting es) (sym none) (none_in_phases setting, none_guaranteed setting)
