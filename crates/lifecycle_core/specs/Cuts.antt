-- Runs that were broken off while an operation was due.
use Rattle.std.specs.Prelude.{◌≡◌, ◌≢◌, List, [], ◌++◌, length}
use Rattle.world_core.specs.declared.entry.Entry.{Entry}
use Rattle.script_workers.specs.declared.phase.Phase.{Phase}
use Rattle.lifecycle_core.specs.Holdings.{none_held}
use Rattle.lifecycle_core.specs.Phases.{IsRunOf, by_workers}
use Rattle.lifecycle_core.specs.Setting.{Setting}
use Rattle.lifecycle_core.specs.Tasks.{End}
use Rattle.lifecycle_core.specs.Ways.{AreFinished, AreUnfinished, IsOperationDue}

-- A run was broken off behind these phases, which are finished and came to these ends. Of the phases left, of which there is one, none
-- was begun, or the first one alone: it is not done, and an operation of it is due.
pub record IsCutBehind (setting : Setting) (journal : List Entry) (done : List Phase) (told : List (List (List End))) : Type 0 where
  pub left : List Phase
  pub phases : setting.script.phases ≡ done ++ left
  pub more : left ≢ []
  pub untold : List (List (List End))
  pub run : IsRunOf setting journal (told ++ untold)
  pub finished : AreFinished (by_workers setting) 0 done told
  pub unfinished : AreUnfinished (by_workers setting) (length done) left untold
  pub due : untold ≢ [] → IsOperationDue (by_workers setting) none_held setting.script.phases journal told
