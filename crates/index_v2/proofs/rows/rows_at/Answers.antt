use Rattle.index_parts.proofs.RowPlaces.{table_ascends, table_small}
use Rattle.index_parts.specs.Parts.{part_of, known}
use Rattle.index_v2.proofs.HeldLaws.{known_is}
use Rattle.index_v2.proofs.rows.rows_at.Goals as goal

pub of_table-requires-clause-ascending : goal.of_table-requires-clause-ascending
of_table-requires-clause-ascending c = table_ascends _ _ _ (c.in-Ok.ensures.found (known (part_of c.args.part)) (known_is _))

pub of_table-requires-clause-small : goal.of_table-requires-clause-small
of_table-requires-clause-small c = table_small _ _ _ (c.in-Ok.ensures.found (known (part_of c.args.part)) (known_is _))
