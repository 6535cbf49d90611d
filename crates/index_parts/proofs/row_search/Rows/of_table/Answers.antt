use Rattle.index_parts.proofs.row_search.Rows.of_table.Goals as goal

pub invariant_of-result : goal.invariant_of-result
invariant_of-result c = (c.requires.ascending, c.requires.small)
