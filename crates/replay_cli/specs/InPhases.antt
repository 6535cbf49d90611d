-- Journals of runs whose workers are beside each other.
use Rattle.std.specs.Prelude.{List}
use Rattle.world_core.specs.declared.entry.Entry.{Entry}
use Rattle.call_verdicts.specs.lifecycle_core.specs.Phases.{IsInTurn, IsRunOf}
use Rattle.call_verdicts.specs.lifecycle_core.specs.Setting.{Setting}
use Rattle.call_verdicts.specs.lifecycle_core.specs.Tasks.{End}

-- The journal is lawful for the script, and no phase was begun behind one that was broken off.
abbrev pub IsInPhases : Setting → List Entry → Type 0
IsInPhases setting journal = (ends : List (List (List End))) × IsRunOf setting journal ends × IsInTurn setting ends
