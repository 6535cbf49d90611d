use Rattle.std.proofs.Common.{refl, sym, ◌∙◌}
use Rattle.index_v2.proofs.Differences.{gap_found, gap_missing}
use Rattle.index_v2.proofs.RankPlaces.{rows_alike}
use Rattle.index_v2.proofs.difference.gap_at.Goals as goal

pub returns-in-Ok : goal.returns-in-Ok
returns-in-Ok c =
    λ symbols told one are is. c.unless_has.ensures
    ∙ sym (gap_found _ _ _ _ _ _ _ _ _ _ are.ascend refl
    refl (are.many ∙ c.requires.one_each) (c.in-Ok.ensures.found told one.name one.value (rows_alike _ _ _ _ _ are is)) c.index-lists-row.is c.members.ensures c.has_number-has.ensures)

pub returns-in-Err : goal.returns-in-Err
returns-in-Err c =
    λ symbols told one are is. gap_missing _ _ _ _ _ _ _ refl refl (are.many ∙ c.requires.one_each) (c.in-Err.ensures.absent told one.name one.value (rows_alike _ _ _ _ _ are is))
