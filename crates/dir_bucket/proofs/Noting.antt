-- What a noted call shows.
use Rattle.std.proofs.Common.{◌≡◌, ◌⊎◌, inl, List, [], ◌∷◌, ◌++◌, ap}
use Rattle.std.specs.Prelude.{Some}
use Rattle.bucket_core.specs.Asking.{Call}

pub noted : {X A : Type 0} (old new : List X) (call : X) (answer none : A) → new ≡ old ++ call ∷ [] → (Some new ≡ Some (old ++ call ∷ [])) ⊎ ((Some new ≡ Some old) × (answer ≡ none))
noted {X} old new call answer none is = inl (ap (λ (calls : List X). Some calls) is)

pub noted_so : (old new : List Call) (call : Call) → new ≡ old ++ call ∷ [] → Some new ≡ Some (old ++ call ∷ [])
noted_so old new call is = ap (λ (calls : List Call). Some calls) is
