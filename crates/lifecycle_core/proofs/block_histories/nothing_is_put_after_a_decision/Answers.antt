use Rattle.std.proofs.Common.{◌∷◌, ◌++◌, refl}
use Rattle.lifecycle_core.proofs.deeds.ActingDeeds.{acting_deeds}
use Rattle.lifecycle_core.proofs.marks.Deletions.{nothing_put_after}
use Rattle.lifecycle_core.proofs.block_histories.nothing_is_put_after_a_decision.Goals as goal

pub returns : goal.returns
returns c = λ setting before middle after x e ulid lawful acts honest timely decides.
    nothing_put_after setting (before ++ x ∷ (middle ++ e ∷ after)) lawful (acting_deeds setting (before ++ x ∷ (middle ++ e ∷ after)) lawful acts).deeds honest ulid timely before middle after x e refl decides
