use Rattle.std.proofs.Common.{◌≡◌, ◌++◌, length}
use Rattle.script_fields.specs.Fields.{lines_of}
use Rattle.run_messages.specs.Told.{told_by}
use Rattle.run_messages.proofs.told.told_in.Given as goal

-- what was told, with what the lines that are left tell, is what all tell
abbrev pub invariant-loop-left : goal.invariant-loop-left
invariant-loop-left l = l.told ++ told_by l.tasks (lines_of l.left) ≡ told_by 0 (lines_of l.report)

abbrev pub decreases-loop-left : goal.decreases-loop-left
decreases-loop-left l = length l.left
