use Rattle.std.proofs.Common.{arith, sym, ◌∙◌}
use Rattle.index_parts.proofs.RowPlaces.{between_raised, between_lowered, equal_row}
use Rattle.index_parts.proofs.row_search.place_of.Goals as goal

pub loop-low-preserved-in-Less : goal.loop-low-preserved-in-Less
loop-low-preserved-in-Less c =
    between_raised _ _ _ _ _ _ _ _ c.requires c.loop-low.invariant (omega arith) (sym c.in-Some.ensures)
    (sym c.compare_row.ensures ∙ c.in-Less.is) (omega arith)

pub returns-in-Equal-clause-found : goal.returns-in-Equal-clause-found
returns-in-Equal-clause-found c = equal_row _ _ _ _ _ (sym c.in-Some.ensures) (sym c.compare_row.ensures ∙ c.in-Equal.is)

pub loop-low-preserved : goal.loop-low-preserved
loop-low-preserved c =
    between_lowered _ _ _ _ _ _ _ c.requires c.loop-low.invariant (omega arith) (omega arith) (sym c.in-Some.ensures)
    (sym c.compare_row.ensures ∙ c.in-Greater.is)
