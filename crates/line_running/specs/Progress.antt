-- How far a run in the order of the lines has come, as the contracts of its parts say it.
use Rattle.std.specs.Prelude.{◌≡◌, ◌≢◌, ℕ, ◌+◌, ◌<◌, ◌≤◌, List, [], ◌∷◌, ◌++◌, length, take, drop, All, Option, Result, Ok, Err}
use Rattle.world_core.specs.declared.entry.Entry.{Entry}
use Rattle.script_core.specs.Lawful.{IsLawfulScript}
use Rattle.script_core.specs.declared.script.Script.{Script}
use Rattle.script_workers.specs.Hands.{gateway_count, gateway_of}
use Rattle.script_workers.specs.declared.hand.Hand.{Hand}
use Rattle.script_workers.specs.declared.phase.Phase.{Phase}
use Rattle.script_workers.specs.declared.task.Task.{Task}
use Rattle.script_workers.specs.declared.worker.Worker.{Worker}
use Rattle.report_lines.specs.lifecycle_core.specs.Conducts.{Assigned}
use Rattle.report_lines.specs.lifecycle_core.specs.Holdings.{Holding, Holdings, holding_of, none_held, with_holding}
use Rattle.report_lines.specs.lifecycle_core.specs.InLine.{Duty, duties_from, InLine, in_line, seat_of, who_does}
use Rattle.report_lines.specs.lifecycle_core.specs.Setting.{Setting}
use Rattle.report_lines.specs.lifecycle_core.specs.Tasks.{End, TaskRun}
use Rattle.report_lines.specs.lifecycle_core.specs.Ways.{AreInTurn, AreUnfinished, IsDue, IsDueAfter, IsOperationDue, PhasesRun}
use Rattle.report_lines.specs.script_running.specs.Beside.{AreSeen}
use Rattle.report_lines.specs.script_running.specs.Lending.{Loan}
use Rattle.report_lines.specs.script_running.specs.Outcomes.{IsOutcome, Outcome, Part, PhasesTold}
use Rattle.report_lines.specs.script_running.specs.Tasks.{Allows, CameBy, Does, WhenDone, WhenFull}
use Rattle.report_lines.specs.script_running.specs.declared.sight.Sight.{Sight}
use Rattle.report_lines.specs.Telling.{tasks_of}
use Rattle.report_lines.specs.script_running.specs.declared.came.Broken.{Broken}
use Rattle.report_lines.specs.script_running.specs.declared.came.Broken.TheVariants as broken

-- Tasks can be done: they are those of a lawful script, of which this is lent, and each of its gateways sees.
pub record HaveMeans (script : Script) (loan : Loan) (tasks : List Task) (sights : ℕ) : Type 0 where
  pub lent : loan.script ≡ script
  pub lawful : IsLawfulScript loan.script
  pub allowed : All (λ task. Allows loan.script task.work) tasks
  pub ready : sights ≡ length loan.script.gateways

-- how the tasks of a phase are done in line: by which setting, and from whose seats
pub record Line : Type 0 where
  pub setting : Setting
  pub seat : Hand → ℕ

-- that of these workers
abbrev pub line_by : Setting → List Worker → Line
line_by setting workers = record { setting = setting; seat = seat_of workers }

-- ---- one task

-- the duties of the task at a place
abbrev pub duties_at : Setting → ℕ → List Task → List Duty
duties_at setting place tasks = duties_from (gateway_count setting.script.gateways) place tasks

-- a worker's part of the task at a place: its entries and what it came to
pub record PartStep (line : Line) (duty : Duty) (views : Holdings) (gateways : List Sight) (old new : List Entry) (came : Result Part Broken) : Type 0 where
  pub made : List Entry
  pub entries : new ≡ old ++ made
  pub seats : All (λ e. e.seat ≡ line.seat duty.hand) made
  pub end : Option End
  pub after : Holding
  pub run : TaskRun line.setting (who_does line.seat duty.hand) duty.place duty.task.work (holding_of views (gateway_of duty.hand)) made end after
  pub shows : WhenDone came (AreSeen (with_holding views (gateway_of duty.hand) after) gateways)
  pub by : CameBy duty.task.work end came
  pub due : WhenFull came (IsDueAfter (Does (TaskRun line.setting (who_does line.seat duty.hand) duty.place duty.task.work (holding_of views (gateway_of duty.hand)))) (line.seat duty.hand) made)

-- the task has come to all its ends, or the full journal left one out
abbrev pub IsWhole : Setting → ℕ → Task → List End → Result Outcome Broken → Type 0
IsWhole setting place task ends (Ok o) = (length ends ≡ length (duties_at setting place (task ∷ []))) × IsOutcome task.work ends o
IsWhole setting place task ends (Err broken.Full) = length ends < length (duties_at setting place (task ∷ []))
IsWhole setting place task ends (Err broken.NoMemory) = Unit {0}

-- an operation of some seat is due after these entries of duties
abbrev pub IsDueInLine : Setting → (Hand → ℕ) → Holdings → List Duty → List Entry → Type 0
IsDueInLine setting seat views duties made = IsDue (λ entries (run : List End × Holdings). InLine setting seat views duties entries run.0 run.1) made

-- a task's entries and what it came to
pub record TaskStep (line : Line) (one : Assigned) (views : Holdings) (gateways : List Sight) (old new : List Entry) (came : Result Outcome Broken) : Type 0 where
  pub made : List Entry
  pub entries : new ≡ old ++ made
  pub ends : List End
  pub after : Holdings
  pub run : InLine line.setting line.seat views (duties_at line.setting one.place (one.task ∷ [])) made ends after
  pub shows : WhenDone came (AreSeen after gateways)
  pub whole : IsWhole line.setting one.place one.task ends came
  pub due : WhenFull came (IsDueInLine line.setting line.seat views (duties_at line.setting one.place (one.task ∷ [])) made)

-- ---- the tasks of a phase

-- How tasks from a place on came out, by the ends of their duties. These stand in the order of the lines, so a task has the next ones;
-- among the ends of workers, by which `TasksCame` says the same, each has to be found.
abbrev pub TasksTold : Setting → ℕ → List Task → List End → List Outcome → Type 0
TasksTold setting place [] ends outcomes = (ends ≡ []) × (outcomes ≡ [])
TasksTold setting place (task ∷ tasks) ends outcomes =
    (own : List End) × (others : List End) × (o : Outcome) × (later : List Outcome)
    × (ends ≡ own ++ others) × (length own ≡ length (duties_at setting place (task ∷ []))) × IsOutcome task.work own o
    × (outcomes ≡ o ∷ later) × TasksTold setting (place + 1) tasks others later

-- tasks that were done to their ends, of which a report tells
pub record TasksDone (told_of : Script → List Task → List Outcome → Type 0) (line : Line) (tasks : List Task) (views : Holdings) (gateways : List Sight) (old new : List Entry) : Type 0 where
  pub made : List Entry
  pub entries : new ≡ old ++ made
  pub ends : List End
  pub after : Holdings
  pub run : InLine line.setting line.seat views (duties_at line.setting 0 tasks) made ends after
  pub shows : AreSeen after gateways
  pub outcomes : List Outcome
  pub told : TasksTold line.setting 0 tasks ends outcomes
  pub report_is : told_of line.setting.script tasks outcomes

-- where the journal is full, some duty has no end, and an operation is due
abbrev pub IsShort : Broken → List End → List Duty → Type 0 → Type 0
IsShort broken.Full ends duties is_due = (length ends < length duties) × is_due
IsShort broken.NoMemory ends duties is_due = Unit {0}

-- tasks that were broken off
pub record TasksBroken (line : Line) (tasks : List Task) (views : Holdings) (old new : List Entry) (why : Broken) : Type 0 where
  pub made : List Entry
  pub entries : new ≡ old ++ made
  pub ends : List End
  pub after : Holdings
  pub run : InLine line.setting line.seat views (duties_at line.setting 0 tasks) made ends after
  pub short : IsShort why ends (duties_at line.setting 0 tasks) (IsDueInLine line.setting line.seat views (duties_at line.setting 0 tasks) made)

-- ---- phases

-- how phases came out, by the ends of their duties
abbrev pub PhasesDone : Setting → ℕ → List Phase → List (List End) → List Outcome → Type 0
PhasesDone setting number phases ends outcomes = PhasesTold (λ number phase own first. TasksTold setting 0 phase.tasks own first) number phases ends outcomes

-- The phases before a place were done to their ends, and this is their report. What completes the rest completes the run.
pub record Reached {R : Type 0} (tells : R → Script → List Task → List Outcome → Type 0) (setting : Setting) (place : ℕ) (gateways : List Sight) (journal : List Entry) (report : R) : Type 0 where
  pub views : Holdings
  pub shows : AreSeen views gateways
  pub ends : List (List End)
  pub onward : (entries : List Entry) (later : List (List End)) → PhasesRun (in_line setting) place views (drop place setting.script.phases) entries later
      → PhasesRun (in_line setting) 0 none_held setting.script.phases (journal ++ entries) (ends ++ later)
  pub outcomes : List Outcome
  pub told : PhasesDone setting 0 (take place setting.script.phases) ends outcomes
  pub report_is : tells report setting.script (tasks_of (take place setting.script.phases)) outcomes

-- A run that was broken off in the phase at a place, where an operation is due, or before that phase was begun. By the words for runs of
-- workers beside each other this is `IsCutBehind`.
pub record IsBrokenAt {R : Type 0} (tells : R → Script → List Task → List Outcome → Type 0) (setting : Setting) (place : ℕ) (journal : List Entry) (report : R) : Type 0 where
  pub ends : List (List End)
  pub unfinished : List (List End)
  pub left : AreUnfinished (in_line setting) place (drop place setting.script.phases) unfinished
  pub due : unfinished ≢ [] → IsOperationDue (in_line setting) none_held setting.script.phases journal ends
  pub run : PhasesRun (in_line setting) 0 none_held setting.script.phases journal (ends ++ unfinished)
  pub outcomes : List Outcome
  pub told : PhasesDone setting 0 (take place setting.script.phases) ends outcomes
  pub report_is : tells report setting.script (tasks_of (take place setting.script.phases)) outcomes

-- A run for which memory was wanted in the phase at a place, or before that phase was begun. No phase was begun behind that one, and this is
-- the report of those before it. By the words for runs of workers beside each other this is `IsCutForMemory`.
pub record IsShortAt {R : Type 0} (tells : R → Script → List Task → List Outcome → Type 0) (setting : Setting) (place : ℕ) (journal : List Entry) (report : R) : Type 0 where
  pub ends : List (List End)
  pub begun : List (List End)
  pub few : length begun ≤ 1
  pub run : PhasesRun (in_line setting) 0 none_held setting.script.phases journal (ends ++ begun)
  pub turns : AreInTurn (in_line setting) 0 setting.script.phases (ends ++ begun)
  pub outcomes : List Outcome
  pub told : PhasesDone setting 0 (take place setting.script.phases) ends outcomes
  pub report_is : tells report setting.script (tasks_of (take place setting.script.phases)) outcomes

-- a run so far
abbrev pub HasRun : Setting → List Entry → Type 0
HasRun setting journal =
    (ends : List (List End)) × PhasesRun (in_line setting) 0 none_held setting.script.phases journal ends
    × AreInTurn (in_line setting) 0 setting.script.phases ends

-- what a phase leaves
abbrev pub PhaseStep : {R : Type 0} → (R → Script → List Task → List Outcome → Type 0) → Setting → ℕ → List Sight → List Entry → R → Result (Unit {0}) Broken → Type 0
PhaseStep tells setting place gateways journal report (Ok done) = Reached tells setting (place + 1) gateways journal report
PhaseStep tells setting place gateways journal report (Err broken.Full) = IsBrokenAt tells setting place journal report
PhaseStep tells setting place gateways journal report (Err broken.NoMemory) = IsShortAt tells setting place journal report

-- what all phases leave
abbrev pub RunCame : {R : Type 0} → (R → Script → List Task → List Outcome → Type 0) → Setting → List Sight → List Entry → R → Result (Unit {0}) Broken → Type 0
RunCame tells setting gateways journal report (Ok done) = Reached tells setting (length setting.script.phases) gateways journal report
RunCame tells setting gateways journal report (Err broken.Full) = (place : ℕ) × (place < length setting.script.phases) × IsBrokenAt tells setting place journal report
RunCame tells setting gateways journal report (Err broken.NoMemory) = (place : ℕ) × IsShortAt tells setting place journal report
