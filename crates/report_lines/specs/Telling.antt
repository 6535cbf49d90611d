-- Of which tasks lines tell.
use Rattle.std.specs.Prelude.{◌≡◌, ◌∷◌, ◌++◌, ℕ, List, [], length}
use Rattle.std.specs.List.{flat_map, list_all}
use Rattle.script_core.specs.declared.script.Script.{Script}
use Rattle.script_workers.specs.declared.phase.Phase.{Phase}
use Rattle.script_workers.specs.declared.task.Task.{Task}
use Rattle.report_lines.specs.Reports.{activity_text}
use Rattle.script_running.specs.Outcomes.{Outcome, is_as_asked}
use Rattle.report_lines.specs.declared.lines.Lines.{Lines}

-- the tasks of phases, one after another
abbrev pub tasks_of : List Phase → List Task
tasks_of phases = flat_map (λ phase. phase.tasks) phases

-- the lines of tasks that came out so, one after another
unfoldable pub report_of : Script → List Task → List Outcome → List ℕ
report_of script [] outcomes = []
report_of script (task ∷ tasks) [] = []
report_of script (task ∷ tasks) (outcome ∷ outcomes) = activity_text script task.work outcome ++ report_of script tasks outcomes

-- The lines are those of these tasks of the script, which came out so, one outcome each.
pub record AreLinesOf (lines : Lines) (script : Script) (tasks : List Task) (outcomes : List Outcome) : Type 0 where
  pub each : length outcomes ≡ length tasks
  pub text : lines.text.items ≡ report_of script tasks outcomes
  pub flag : lines.as_asked ≡ list_all is_as_asked outcomes
