-- What is known of the reply that a machine waits for.
use Rattle.std.proofs.Common.{◌≡◌, Option, Some, subst}
use Rattle.std.specs.Prelude.{IsSomeAnd}
use Rattle.world_core.specs.Operations.{IsAnswer}
use Rattle.world_core.specs.declared.op.Op.{Op}
use Rattle.world_core.specs.declared.seen.Seen.{Seen}

-- it answers the operation that was asked for
pub answer_of : (seen : Seen) (asked : Option Op) (o : Op) → IsSomeAnd asked (λ p. IsAnswer p seen) → asked ≡ Some o → IsAnswer o seen
answer_of seen asked o some is = subst (λ a. IsSomeAnd a (λ p. IsAnswer p seen)) is some
