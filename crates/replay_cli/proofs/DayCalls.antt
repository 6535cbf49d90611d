-- What was not handed out by a call whose words name a generated day.
use Rattle.std.proofs.Common.{◌≡◌, ℕ, List, sym, subst}
use Rattle.std.specs.Prelude.{Option, Some, None, IfSome}
use Rattle.bucket_core.specs.Told.{BucketTold}
use Rattle.world_core.specs.declared.entry.Entry.{Entry}
use Rattle.call_verdicts.specs.Kept.{IsUnfailed}

pub if_none : {X : Type 0} (o : Option X) (P : X → Type 0) → o ≡ None → IfSome o P
if_none {X} o P none = subst (λ (p : Option X). IfSome p P) (sym none) tt

alone : {B : Type 0} (tells : B → BucketTold) (before : ℕ) (journal : Option (List Entry)) → IsUnfailed tells before journal None
alone tells before None = tt
alone tells before (Some entries) = tt

pub unfailed_alone : {B : Type 0} (tells : B → BucketTold) (before : ℕ) (journal : Option (List Entry)) (store : Option B) → store ≡ None → IsUnfailed tells before journal store
unfailed_alone {B} tells before journal store none = subst (λ (b : Option B). IsUnfailed tells before journal b) (sym none) (alone tells before journal)
