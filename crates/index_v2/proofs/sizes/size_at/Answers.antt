use Rattle.std.proofs.Common.{arith}
use Rattle.index_v2.proofs.ListsFew.{no_size}
use Rattle.index_v2.proofs.sizes.size_at.Goals as goal

pub returns-then-at-bytes : goal.returns-then-at-bytes
returns-then-at-bytes c = no_size _ _ (omega arith)
