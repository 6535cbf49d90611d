use Rattle.index_v2.proofs.RankPlaces.{belongs_all, belongs_found}
use Rattle.index_v2.proofs.difference.belongs.Goals as goal

pub returns-in-None : goal.returns-in-None
returns-in-None c = λ symbols told one tells ranked. belongs_all symbols told one _ c.in-None.is tells

pub returns-in-Some : goal.returns-in-Some
returns-in-Some c = λ symbols told one tells ranked. belongs_found symbols told one _ _ _ _ _ c.in-Some.is tells ranked c.place_of.ensures.found c.place_of.ensures.absent c.is_ok.ensures.value
