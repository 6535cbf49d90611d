-- Booleans and orderings, where the standard library has no lemma.
use Rattle.std.proofs.Common.{◌≡◌, ◌⊎◌, inl, inr, ℕ, ◌<◌, Bool, true, false, cond, ◌&&◌, ◌||◌, List, refl, sym, ap, ◌∙◌, arith}
use Rattle.std.specs.Prelude.{not}
use Rattle.std.specs.declared.cmp.Ordering.{Ordering}
use Rattle.std.specs.declared.cmp.Ordering.TheVariants.{Less, Equal, Greater}
use Rattle.std.specs.Ordering.{is_eq, is_lt, nat_cmp, ordering_then}
use Rattle.std.specs.Str.{bytes_eq}
use Rattle.std.proofs.Math.Dec.{T}
use Rattle.std.proofs.lemmas.Bool.{and_parts, true≢false}
use Rattle.std.proofs.lemmas.Bool.Decides.{nat_tests}
use Rattle.std.proofs.lemmas.Slice.Eq.{bytes_eq-Decides}

-- ---- a Boolean is one or the other

pub by_bool : {P : Type 0} (b : Bool) → (b ≡ true → P) → (b ≡ false → P) → P
by_bool true f g = f refl
by_bool false f g = g refl

pub and_first : (a b : Bool) → (a && b) ≡ true → a ≡ true
and_first a b e = (and_parts a b e).0

pub and_second : (a b : Bool) → (a && b) ≡ true → b ≡ true
and_second a b e = (and_parts a b e).1

pub or_true : (a : Bool) → (a || true) ≡ true
or_true true = refl
or_true false = refl

pub or_false : (a : Bool) → (a || false) ≡ a
or_false true = refl
or_false false = refl

pub or_swap : (a b c : Bool) → (a || (b || c)) ≡ (b || (a || c))
or_swap true true c = refl
or_swap true false c = refl
or_swap false b c = refl

pub or_or_false : (a b : Bool) → (a || (b || false)) ≡ (a || b)
or_or_false a b = ap (λ c. a || c) (or_false b)

-- ---- what tests say of one another

pub not_both : (b : Bool) → b ≡ true → b ≡ false → ⊥
not_both b t f = true≢false (sym t ∙ f)

pub not_negated : (b : Bool) → not b ≡ true → b ≡ true → ⊥
not_negated true e t = true≢false (sym e)
not_negated false e t = true≢false (sym t)

-- tests that follow from one another are one
pub equal_tests : (a b : Bool) → (a ≡ true → b ≡ true) → (b ≡ true → a ≡ true) → a ≡ b
equal_tests true true on back = refl
equal_tests true false on back = sym (on refl)
equal_tests false true on back = back refl
equal_tests false false on back = refl

pub true-from_T : (b : Bool) → T b → b ≡ true
true-from_T true t = refl
true-from_T false t = absurd t

-- two tests that never hold together may change places
pub swap_tests : {A : Type 0} (a b : Bool) (x y z : A) → (a ≡ true → b ≡ true → ⊥) → cond a x (cond b y z) ≡ cond b y (cond a x z)
swap_tests true true x y z apart = absurd (apart refl refl)
swap_tests true false x y z apart = refl
swap_tests false b x y z apart = refl

-- ---- orderings

pub by_order : {P : Type 0} (o : Ordering) → (o ≡ Less → P) → (o ≡ Equal → P) → (o ≡ Greater → P) → P
by_order Less f g h = f refl
by_order Equal f g h = g refl
by_order Greater f g h = h refl

pub Less-from_is_lt : (o : Ordering) → is_lt o ≡ true → o ≡ Less
Less-from_is_lt Less e = refl
Less-from_is_lt Equal e = absurd cc
Less-from_is_lt Greater e = absurd cc

pub is_lt-from_Less : (o : Ordering) → o ≡ Less → is_lt o ≡ true
is_lt-from_Less o e = rw e refl

pub Equal-from_is_eq : (o : Ordering) → is_eq o ≡ true → o ≡ Equal
Equal-from_is_eq Less e = absurd cc
Equal-from_is_eq Equal e = refl
Equal-from_is_eq Greater e = absurd cc

pub Less-from_then : (a b : Ordering) → ordering_then a b ≡ Less → (a ≡ Less) ⊎ ((a ≡ Equal) × (b ≡ Less))
Less-from_then Less b e = inl refl
Less-from_then Equal b e = inr (refl, e)
Less-from_then Greater b e = absurd cc

pub Equal-from_then : (a b : Ordering) → ordering_then a b ≡ Equal → (a ≡ Equal) × (b ≡ Equal)
Equal-from_then Less b e = absurd cc
Equal-from_then Equal b e = (refl, e)
Equal-from_then Greater b e = absurd cc

pub nat_cmp-Less : (n m : ℕ) → n < m → nat_cmp n m ≡ Less
nat_cmp-Less n m lt = grind (arith, nat_tests)

pub nat_cmp-Equal : (n : ℕ) → nat_cmp n n ≡ Equal
nat_cmp-Equal n = grind (arith, nat_tests)

pub nat_cmp-Greater : (n m : ℕ) → m < n → nat_cmp n m ≡ Greater
nat_cmp-Greater n m lt = grind (arith, nat_tests)

pub lt-from_Less : (n m : ℕ) → nat_cmp n m ≡ Less → n < m
lt-from_Less n m e = grind (arith, nat_tests)

pub same-from_Equal : (n m : ℕ) → nat_cmp n m ≡ Equal → n ≡ m
same-from_Equal n m e = grind (arith, nat_tests)

pub gt-from_Greater : (n m : ℕ) → nat_cmp n m ≡ Greater → m < n
gt-from_Greater n m e = grind (arith, nat_tests)

pub same-from_is_eq : (n m : ℕ) → is_eq (nat_cmp n m) ≡ true → n ≡ m
same-from_is_eq n m e = same-from_Equal n m (Equal-from_is_eq (nat_cmp n m) e)

-- ---- texts

pub same_texts : (a b : List ℕ) → bytes_eq a b ≡ true → a ≡ b
same_texts a b e = let d = bytes_eq-Decides a b in grind (arith, d)

pub bytes_eq-itself : (a : List ℕ) → bytes_eq a a ≡ true
bytes_eq-itself a = let d = bytes_eq-Decides a a in grind (arith, d)
