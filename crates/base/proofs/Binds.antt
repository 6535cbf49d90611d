-- What a step of a reading function gave, taken apart.
use Rattle.std.proofs.Common.{◌≡◌, Bool, true, false, cond, Option, Some, None, Result, Ok, Err, refl, ◌⊎◌, inl, inr}
use Rattle.std.specs.Option.{ok_or}
use Rattle.base.specs.Reading.{◌>>=◌, ◌>>◌, unless, refused_as}

-- what was read in the end was read by each step
pub bind_ok : {A B E : Type 0} (r : Result A E) (f : A → Result B E) (y : B) → (r >>= f) ≡ Ok y → (x : A) × (r ≡ Ok x) × (f x ≡ Ok y)
bind_ok (Ok x) f y e = (x, refl, e)
bind_ok (Err d) f y e = absurd cc

-- a refusal is that of the first step, or of what follows it
pub bind_err : {A B E : Type 0} (r : Result A E) (f : A → Result B E) (d : E) → (r >>= f) ≡ Err d → (r ≡ Err d) ⊎ ((x : A) × (r ≡ Ok x) × (f x ≡ Err d))
bind_err (Ok x) f d e = inr (x, refl, e)
bind_err (Err c) f d e = inl cc

-- what was read behind a step that gives nothing on
pub then_ok : {A B E : Type 0} (r : Result A E) (s : Result B E) (y : B) → (r >> s) ≡ Ok y → (x : A) × (r ≡ Ok x) × (s ≡ Ok y)
then_ok (Ok x) s y e = (x, refl, e)
then_ok (Err d) s y e = absurd cc

-- a test that let the reading go on
pub unless_ok : {B E : Type 0} (b : Bool) (d : E) (r : Result B E) (y : B) → (unless b d >> r) ≡ Ok y → (b ≡ true) × (r ≡ Ok y)
unless_ok true d r y e = (refl, e)
unless_ok false d r y e = absurd cc

pub unless_is : {E : Type 0} (b : Bool) (d : E) → unless b d ≡ Ok tt → b ≡ true
unless_is true d e = refl
unless_is false d e = absurd cc

-- a choice that refused in its first branch, or in its second
pub cond_ok : {A E : Type 0} (b : Bool) (d : E) (r : Result A E) (y : A) → cond b (Err d) r ≡ Ok y → (b ≡ false) × (r ≡ Ok y)
cond_ok true d r y e = absurd cc
cond_ok false d r y e = (refl, e)

pub cond_ok_second : {A E : Type 0} (b : Bool) (r : Result A E) (d : E) (y : A) → cond b r (Err d) ≡ Ok y → (b ≡ true) × (r ≡ Ok y)
cond_ok_second true r d y e = (refl, e)
cond_ok_second false r d y e = absurd cc

-- which way a choice went
pub cond_is : {A : Type 0} (b : Bool) (x y z : A) → cond b x y ≡ z → ((b ≡ true) × (x ≡ z)) ⊎ ((b ≡ false) × (y ≡ z))
cond_is true x y z e = inl (refl, e)
cond_is false x y z e = inr (refl, e)

-- the value is what was read
pub ok_is : {A E : Type 0} (x y : A) → ◌≡◌ {A = Result A E} (Ok x) (Ok y) → x ≡ y
ok_is x y e = cc

pub err_is : {A E : Type 0} (d e : E) → ◌≡◌ {A = Result A E} (Err d) (Err e) → d ≡ e
err_is d e h = cc

pub refused_as_ok : {A D E : Type 0} (f : D → E) (r : Result A D) (y : A) → refused_as f r ≡ Ok y → r ≡ Ok y
refused_as_ok f (Ok x) y e = cc
refused_as_ok f (Err d) y e = absurd cc

pub refused_as_err : {A D E : Type 0} (f : D → E) (r : Result A D) (e : E) → refused_as f r ≡ Err e → (d : D) × (r ≡ Err d) × (f d ≡ e)
refused_as_err f (Ok x) e h = absurd cc
refused_as_err f (Err d) e h = (d, refl, cc)

-- an option that was asked for a value
pub ok_or_ok : {A E : Type 0} (o : Option A) (e : E) (x : A) → ok_or o e ≡ Ok x → o ≡ Some x
ok_or_ok None e x h = absurd cc
ok_or_ok (Some y) e x h = cc

-- a result is one thing
pub one_answer : {A E : Type 0} (x y : A) (r : Result A E) → r ≡ Ok x → r ≡ Ok y → x ≡ y
one_answer x y r e f = cc

pub ok_not_err : {A E : Type 0} (x : A) (d : E) (r : Result A E) → r ≡ Ok x → r ≡ Err d → ⊥
ok_not_err x d r e f = absurd cc

-- a result is one or the other
pub by_result : {A E P : Type 0} (r : Result A E) → ((x : A) → r ≡ Ok x → P) → ((d : E) → r ≡ Err d → P) → P
by_result (Ok x) f g = f x refl
by_result (Err d) f g = g d refl
