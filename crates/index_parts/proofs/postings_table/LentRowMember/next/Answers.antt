use Rattle.std.proofs.Common.{arith}
use Rattle.index_parts.proofs.Texts.{text_within}
use Rattle.index_parts.proofs.postings_table.LentRowMember.next.Goals as goal

pub row_of_fields-requires-clause-name : goal.row_of_fields-requires-clause-name
row_of_fields-requires-clause-name c = let within = text_within _ _ _ c.in_ok-name.ensures in omega arith

pub row_of_fields-requires-clause-value : goal.row_of_fields-requires-clause-value
row_of_fields-requires-clause-value c = let within = text_within _ _ _ c.in_ok-value.ensures in omega arith
