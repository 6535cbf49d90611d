use Rattle.std.proofs.Common.{refl}
use Rattle.index_v2.proofs.NameOrder.{name_behind}
use Rattle.index_v2.proofs.series_labels.may_stand_behind.Goals as goal

pub returns-in-Some : goal.returns-in-Some
returns-in-Some c = λ symbols are at within. name_behind symbols _ _ _ _ _ c.in-Some.is are at within refl
