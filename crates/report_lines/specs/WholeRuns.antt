-- The report of a whole run, and of one that the full journal broke off.
use Rattle.std.specs.Prelude.{◌≡◌, ◌++◌, ℕ, List, Bool, Option}
use Rattle.std.specs.List.{list_all}
use Rattle.world_core.specs.Keeping.{IsFull}
use Rattle.world_core.specs.declared.entry.Entry.{Entry}
use Rattle.script_core.specs.declared.script.Script.{Script}
use Rattle.script_workers.specs.declared.phase.Phase.{Phase}
use Rattle.script_running.specs.Outcomes.{Outcome, PhasesCame, is_as_asked}
use Rattle.script_running.specs.lifecycle_core.specs.Cuts.{IsCutBehind}
use Rattle.script_running.specs.lifecycle_core.specs.Guarantees.{IsGuaranteed}
use Rattle.script_running.specs.lifecycle_core.specs.Phases.{IsFinished, IsRunOf}
use Rattle.script_running.specs.lifecycle_core.specs.Setting.{Setting}
use Rattle.script_running.specs.lifecycle_core.specs.Tasks.{End}
use Rattle.breach_finding.specs.declared.found.Breach.{Breach}
use Rattle.report_lines.specs.BreachLines.{HasBreach, breach_text}
use Rattle.report_lines.specs.Telling.{report_of, tasks_of}

-- The text is the report of these phases, by the ends to which their workers came; the flag tells whether all tasks ended as
-- asked.
pub record IsReport (script : Script) (phases : List Phase) (ends : List (List (List End))) (as_asked : Bool) (text : List ℕ) : Type 0 where
  pub outcomes : List Outcome
  pub came : PhasesCame script 0 phases ends outcomes
  pub lines : text ≡ report_of script (tasks_of phases) outcomes
  pub flag : as_asked ≡ list_all is_as_asked outcomes

-- The journal is that of the whole script: each of its phases was begun, all its tasks have come to their ends, and the text
-- is their report, with the line of the journal's breach behind it. All that is guaranteed of these ends holds.
pub record IsWholeRun (setting : Setting) (as_asked : Bool) (text : List ℕ) (journal : List Entry) : Type 0 where
  pub ends : List (List (List End))
  pub run : IsRunOf setting journal ends
  pub finished : IsFinished setting ends
  pub lines : List ℕ
  pub report : IsReport setting.script setting.script.phases ends as_asked lines
  pub breach : Option Breach
  pub breaks : HasBreach setting.script journal breach
  pub text_is : text ≡ lines ++ breach_text breach
  pub guaranteed : IsGuaranteed setting journal ends

-- The full journal broke the run off behind some first phases, and the text is their report. All that is guaranteed of the ends to
-- which its workers came holds.
pub record IsFullRun (setting : Setting) (text : List ℕ) (journal : List Entry) : Type 0 where
  pub done : List Phase
  pub told : List (List (List End))
  pub cut : IsCutBehind setting journal done told
  pub full : IsFull journal
  pub as_asked : Bool
  pub report : IsReport setting.script done told as_asked text
  pub guaranteed : IsGuaranteed setting journal (told ++ cut.untold)
