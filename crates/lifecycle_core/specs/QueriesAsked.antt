-- The queries of a script: what each asks, by its place.
use Rattle.std.specs.Prelude.{◌≡◌, ℕ, ℤ, List, Some, slice_get}
use Rattle.matchers.specs.declared.matcher.Matcher.{Matcher}
use Rattle.script_workers.specs.declared.phase.Phase.{Phase}
use Rattle.script_workers.specs.declared.task.Task.{Task}
use Rattle.script_workers.specs.declared.work.Work.TheVariants.{Query}
use Rattle.lifecycle_core.specs.Setting.{Setting}

-- The task at a place of the phase of a number is a query for this selector and these times.
pub record IsQueryAt (setting : Setting) (number place : ℕ) (selector : List Matcher) (low high : ℤ) : Type 0 where
  pub phase : Phase
  pub task : Task
  pub selector_number : ℕ
  pub in_phases : slice_get setting.script.phases number ≡ Some phase
  pub in_tasks : slice_get phase.tasks place ≡ Some task
  pub asks : task.work ≡ Query low high selector_number
  pub selects : slice_get setting.script.selectors selector_number ≡ Some selector
