-- What holds of what a reading function gives, step by step: such a law is proved in the form in which the function is written.
use Rattle.std.proofs.Common.{◌≡◌, Bool, true, false, Result, Ok, Err, refl, subst}
use Rattle.std.specs.Prelude.{IfOk}
use Rattle.base.specs.Reading.{◌>>=◌, ◌>>◌, unless, refused_as, Gives, Answers}
use Rattle.base.proofs.Binds.{bind_ok, ok_is}

-- P holds of the value, if there is one.
pub record OfValue {A E : Type 0} (read : Result A E) (P : A → Type 0) : Type 0 where
  pub holds : (x : A) → read ≡ Ok x → P x

pub of_ok : {A E : Type 0} {P : A → Type 0} {x : A} → P x → OfValue {E = E} (Ok x) P
of_ok {A} {E} {P} {x} p = record { holds = λ y e. subst P (ok_is {E = E} x y e) p }

pub of_err : {A E : Type 0} {P : A → Type 0} {d : E} → OfValue {A = A} (Err d) P
of_err = record { holds = λ y e. absurd cc }

pub of_weaker : {A E : Type 0} {P Q : A → Type 0} {r : Result A E} → ((x : A) → P x → Q x) → OfValue r P → OfValue r Q
of_weaker f p = record { holds = λ x e. f x (p.holds x e) }

-- a step, and what follows on its value
pub of_bind : {A B E : Type 0} {P : A → Type 0} {Q : B → Type 0} {r : Result A E} (f : A → Result B E) → OfValue r P → ((x : A) → P x → OfValue (f x) Q) → OfValue (r >>= f) Q
of_bind {r = r} f p next = record { holds = λ y e. let x = bind_ok r f y e in (next x.0 (p.holds x.0 x.1)).holds y x.2 }

-- a step whose value is not looked at
pub of_then : {A B E : Type 0} {P : A → Type 0} {Q : B → Type 0} {r : Result A E} (s : Result B E) → OfValue r P → ((x : A) → P x → OfValue s Q) → OfValue (r >> s) Q
of_then {r = Ok x} s p next = next x (p.holds x refl)
of_then {r = Err d} s p next = of_err

-- a test, and what follows on it
pub of_unless : {B E : Type 0} {Q : B → Type 0} (b : Bool) (d : E) (r : Result B E) → (b ≡ true → OfValue r Q) → OfValue (unless b d >> r) Q
of_unless true d r next = next refl
of_unless false d r next = of_err

-- a test that comes last
pub of_test : {E : Type 0} {P : Unit {0} → Type 0} (b : Bool) (d : E) → (b ≡ true → P tt) → OfValue (unless b d) P
of_test true d p = of_ok (p refl)
of_test false d p = of_err

-- a step of another part, whose refusals are said in the words of the whole
pub of_bind_as : {A B D E : Type 0} {Q : B → Type 0} (f : D → E) (r : Result A D) (g : A → Result B E) → ((x : A) → r ≡ Ok x → OfValue (g x) Q) → OfValue (refused_as f r >>= g) Q
of_bind_as f (Ok x) g next = next x refl
of_bind_as f (Err d) g next = of_err

-- a last step of another part
pub of_refused : {A D E : Type 0} {P : A → Type 0} (f : D → E) (r : Result A D) → ((x : A) → r ≡ Ok x → P x) → OfValue (refused_as f r) P
of_refused f (Ok x) p = of_ok (p x refl)
of_refused f (Err d) p = of_err

-- ---- from a reading function to the call

pub of_gives : {X Y E : Type 0} {P : Y → Type 0} {read : Result Y E} (no_memory : E) (view : X → Y) (result : Result X E) → OfValue read P → Gives no_memory view result read → IfOk result (λ x. P (view x))
of_gives _ view (Ok x) p gives = p.holds (view x) gives
of_gives _ _ (Err e) p gives = tt

pub of_answers : {X Y E : Type 0} {P : Y → Type 0} {read : Result Y E} (view : X → Y) (result : Result X E) → OfValue read P → Answers view result read → IfOk result (λ x. P (view x))
of_answers view (Ok x) p answers = p.holds (view x) answers
of_answers _ (Err e) p answers = tt
