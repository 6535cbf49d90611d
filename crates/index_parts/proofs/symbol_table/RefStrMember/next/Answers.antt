use Rattle.std.proofs.Common.{arith}
use Rattle.index_parts.proofs.Texts.{text_within}
use Rattle.index_parts.proofs.symbol_table.RefStrMember.next.Goals as goal

pub text_of-requires : goal.text_of-requires
text_of-requires c = let within = text_within _ _ _ c.in_ok-bytes.ensures in omega arith
