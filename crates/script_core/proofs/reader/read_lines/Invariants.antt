use Rattle.std.proofs.Common.{◌≡◌, ◌≤◌, ◌+◌, length}
use Rattle.script_fields.specs.Fields.{lines_of}
use Rattle.script_core.specs.Reading.{lines_at}
use Rattle.script_core.specs.View.{state_of}
use Rattle.script_core.proofs.LinesSoFar.{ReadSoFar}
use Rattle.script_core.proofs.reader.read_lines.Given as goal
use Rattle.script_fields.specs.Limits.{longest_text}

-- what is read of the lines that are left is what is read of all
abbrev pub invariant-loop-left : goal.invariant-loop-left
invariant-loop-left l =
    (l.number + length l.left ≤ longest_text) × (lines_at (state_of l.draft) (l.number + 1) (lines_of l.left) ≡ lines_at (state_of l.fn.draft) 1 (lines_of l.text))
    × ReadSoFar (state_of l.fn.draft) l.text l.left l.number (state_of l.draft)

abbrev pub decreases-loop-left : goal.decreases-loop-left
decreases-loop-left l = length l.left
