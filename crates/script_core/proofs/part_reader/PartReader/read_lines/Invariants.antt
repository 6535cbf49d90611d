use Rattle.std.proofs.Common.{length}
use Rattle.script_core.proofs.PartLaws.{ReadFront}
use Rattle.script_core.proofs.part_reader.PartReader.read_lines.Given as goal

-- what was read is what stands before what is left
abbrev pub invariant-loop-left : goal.invariant-loop-left
invariant-loop-left l = ReadFront l.fn.self l.self l.text l.left

abbrev pub decreases-loop-left : goal.decreases-loop-left
decreases-loop-left l = length l.left
