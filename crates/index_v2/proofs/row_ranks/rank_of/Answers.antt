use Rattle.std.proofs.Common.{arith, refl, sym, ◌∙◌, ◌+◌, ◌-◌, ◌/◌}
use Rattle.index_v2.proofs.RowRanks.{text_raised, text_lowered, text_found}
use Rattle.index_v2.proofs.row_ranks.rank_of.Goals as goal

pub loop-low-preserved-in-Less : goal.loop-low-preserved-in-Less
loop-low-preserved-in-Less c =
    let middle = c.loop-low.low + (c.loop-low.high - c.loop-low.low) / 2 in
    text_raised _ _ c.loop-low.low c.loop-low.high middle _ c.in-Some.ensures.are c.loop-low.invariant (omega arith) (sym c.in-Some.ensures.value) _ (sym c.cmp.ensures ∙ c.in-Less.is) refl

pub returns-in-Equal : goal.returns-in-Equal
returns-in-Equal c =
    let middle = c.loop-low.low + (c.loop-low.high - c.loop-low.low) / 2 in
    text_found _ _ c.loop-low.low c.loop-low.high middle _ c.in-Some.ensures.are c.loop-low.invariant (omega arith) (sym c.in-Some.ensures.value) _ (sym c.cmp.ensures ∙ c.in-Equal.is) refl

pub loop-low-preserved : goal.loop-low-preserved
loop-low-preserved c =
    let middle = c.loop-low.low + (c.loop-low.high - c.loop-low.low) / 2 in
    text_lowered _ _ c.loop-low.low c.loop-low.high middle _ c.in-Some.ensures.are c.loop-low.invariant (omega arith) (sym c.in-Some.ensures.value) (omega arith) (sym c.cmp.ensures ∙ c.in-Greater.is)
