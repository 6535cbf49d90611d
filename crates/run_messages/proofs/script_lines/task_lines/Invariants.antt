use Rattle.std.proofs.Common.{◌≡◌, ◌≤◌, ◌+◌, ◌++◌, length}
use Rattle.script_fields.specs.Fields.{lines_of}
use Rattle.run_messages.specs.ScriptLines.{task_lines}
use Rattle.run_messages.proofs.script_lines.task_lines.Given as goal

-- the tasks of the front, and those of the lines that are left, are all
abbrev pub invariant-loop-left : goal.invariant-loop-left
invariant-loop-left l =
    (l.number + length l.left ≤ length l.script) × (l.lines.items ++ task_lines (l.number + 1) (lines_of l.left) ≡ task_lines 1 (lines_of l.script))

abbrev pub decreases-loop-left : goal.decreases-loop-left
decreases-loop-left l = length l.left
