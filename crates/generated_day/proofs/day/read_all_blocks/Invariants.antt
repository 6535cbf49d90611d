use Rattle.std.specs.List.{flat_map, range_with_len}
use Rattle.generated_day.specs.Day.{blocks_at}
use Rattle.generated_day.proofs.Parts.{ReadParts}
use Rattle.generated_day.proofs.day.read_all_blocks.Given as goal

-- what was read is what stands before what is left
abbrev pub invariant-loop-block : goal.invariant-loop-block
invariant-loop-block l =
    ReadParts (blocks_at l.number) l.fn.reader l.reader (flat_map (blocks_at l.number) (range_with_len 0 12)) l.block 12
