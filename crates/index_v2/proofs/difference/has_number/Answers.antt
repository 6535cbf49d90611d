use Rattle.std.proofs.Common.{Ok, Err, refl}
use Rattle.index_v2.proofs.Differences.{has_number_is}
use Rattle.index_v2.proofs.difference.has_number.Goals as goal

pub returns-in-Ok : goal.returns-in-Ok
returns-in-Ok c = has_number_is _ _ (Ok c.in-Ok.place) _ c.requires c.in-Ok.ensures.position refl

pub returns-in-Err : goal.returns-in-Err
returns-in-Err c = has_number_is _ _ (Err c.in-Err.field-0) _ c.requires c.in-Err.ensures.position refl
