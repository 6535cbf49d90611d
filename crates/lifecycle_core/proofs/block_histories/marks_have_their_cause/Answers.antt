use Rattle.std.proofs.Common.{◌∷◌, ◌++◌, refl}
use Rattle.lifecycle_core.proofs.deeds.ActingDeeds.{acting_deeds}
use Rattle.lifecycle_core.proofs.marks.Causes.{mark_cause}
use Rattle.lifecycle_core.proofs.block_histories.marks_have_their_cause.Goals as goal

pub returns : goal.returns
returns c = λ setting before after e ulid second lawful acts honest marks.
    mark_cause setting (before ++ e ∷ after) lawful (acting_deeds setting (before ++ e ∷ after) lawful acts).deeds honest before after e refl ulid second marks
