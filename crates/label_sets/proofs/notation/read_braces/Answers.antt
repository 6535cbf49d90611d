use Rattle.std.proofs.Common.{arith}
use Rattle.label_sets.proofs.ReadWalks.{past_utf8}
use Rattle.label_sets.proofs.notation.read_braces.Goals as goal

pub read_pairs-requires : goal.read_pairs-requires
read_pairs-requires c = past_utf8 _ _ _ (omega arith) c.in-Ok.ensures.answers c.requires
