-- What one call after another leaves of a shelf.
use Rattle.std.proofs.Common.{◌≡◌, Bool, true, false, refl, sym, subst, ◌∙◌, arith}
use Rattle.std.specs.Prelude.{IsTrue}
use Rattle.bucket_core.specs.Causes.{CountsFaults}
use Rattle.bucket_core.specs.Told.{ShelfTold}
use Rattle.block_loading.specs.LoadReading.{KeepsShelf}

module _ {S : Type 0} (tells : S → ShelfTold) where
  -- without a call all is kept
  pub kept_here : (s : S) → KeepsShelf tells s s false
  kept_here s = record { same = refl; later = omega arith; cause = λ t. let never : false ≡ true = t in absurd cc; calm = λ h. refl }

  pub kept_then : (a b c : S) (fault : Bool) → KeepsShelf tells a b false → KeepsShelf tells b c fault → KeepsShelf tells a c fault
  kept_then a b c fault first second = record {
    same = second.same ∙ first.same;
    later = let p = first.later in let q = second.later in omega (arith, p, q);
    cause = λ t. let risen = second.cause t in let still = first.calm refl in omega (arith, risen, still);
    calm = λ h. second.calm h ∙ first.calm refl;
  }

  pub kept_read : (old new : S) (fault failed : Bool) → fault ≡ failed → (tells new).files ≡ (tells old).files → CountsFaults (tells old).faults (tells new).faults failed → KeepsShelf tells old new fault
  kept_read old new fault failed e same counts = record { same = same; later = counts.later; cause = λ t. counts.cause (subst IsTrue e t); calm = λ h. counts.only (sym e ∙ h) }

  pub kept_as : (old new : S) (fault other : Bool) → fault ≡ other → KeepsShelf tells old new fault → KeepsShelf tells old new other
  kept_as old new fault other e kept = subst (KeepsShelf tells old new) e kept
