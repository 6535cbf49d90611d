-- What a hand has done, said by other flags that are equal.
use Rattle.std.proofs.Common.{◌≡◌, Bool, subst}
use Rattle.world_core.specs.Told.{HandTold}
use Rattle.world_core.specs.Turning.{Turned}

pub turned_as : {H : Type 0} (told : H → HandTold) (keeps : H → H → Type 0) (old new : H) (full short own_full own_short : Bool) → Turned told keeps old new full short → full ≡ own_full → short ≡ own_short → Turned told keeps old new own_full own_short
turned_as told keeps old new full short own_full own_short t f s =
    subst (λ (b : Bool). Turned told keeps old new own_full b) s (subst (λ (b : Bool). Turned told keeps old new b short) f t)
