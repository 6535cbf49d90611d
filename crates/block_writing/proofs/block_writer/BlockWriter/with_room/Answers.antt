use Rattle.std.proofs.Common.{rules}
use Rattle.block_writing.proofs.Puts.{none_held}
use Rattle.block_writing.proofs.block_writer.BlockWriter.with_room.Goals as goal

pub invariant_of-result : goal.invariant_of-result
invariant_of-result c = none_held _ _ _ _ _ (search rules) (search rules) (search rules) (search rules)
