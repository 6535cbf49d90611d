-- Options and results, where the standard library has no lemma.
use Rattle.std.proofs.Common.{◌≡◌, Bool, true, false, cond, Option, Some, None, refl}
use Rattle.std.specs.Prelude.{is_some, option_map, Result, Ok, Err, IfOk}

-- what an option has is one value
pub one_value : {A : Type 0} (x y : A) (o : Option A) → o ≡ Some x → o ≡ Some y → x ≡ y
one_value x y o e f = cc

pub some_not_none : {A : Type 0} (x : A) (o : Option A) → o ≡ Some x → o ≡ None → ⊥
some_not_none x o e f = absurd cc

pub None-from_is_some : {A : Type 0} (o : Option A) → is_some o ≡ false → o ≡ None
None-from_is_some None e = refl
None-from_is_some (Some x) e = absurd cc

pub Some-from_is_some : {A : Type 0} (o : Option A) → is_some o ≡ true → (x : A) × (o ≡ Some x)
Some-from_is_some None e = absurd cc
Some-from_is_some (Some x) e = (x, refl)

-- a value behind a test was let through
pub tested_some : {A : Type 0} (b : Bool) (o : Option A) (x : A) → cond b o None ≡ Some x → (b ≡ true) × (o ≡ Some x)
tested_some true o x e = (refl, e)
tested_some false o x e = absurd cc

-- what is mapped to a value was there
pub option_map-Some : {A B : Type 0} (f : A → B) (o : Option A) (y : B) → option_map f o ≡ Some y → (x : A) × (o ≡ Some x) × (f x ≡ y)
option_map-Some f None y e = absurd cc
option_map-Some f (Some x) y e = (x, refl, cc)

pub Some-option_map : {A B : Type 0} (f : A → B) (o : Option A) (y : B) → Some y ≡ option_map f o → (x : A) × (o ≡ Some x) × (y ≡ f x)
Some-option_map f None y e = absurd cc
Some-option_map f (Some x) y e = (x, refl, cc)

-- what holds of a value that came says whatever follows from it
pub if_ok : {A E : Type 0} (P Q : A → Type 0) (r : Result A E) → IfOk r P → ((x : A) → P x → Q x) → IfOk r Q
if_ok P Q (Ok x) is more = more x is
if_ok P Q (Err e) is more = is
