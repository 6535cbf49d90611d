-- Numbers in positional notation.
use Rattle.std.proofs.Common.{◌≡◌, ℕ, zero, suc, ◌+◌, ◌*◌, ◌/◌, ◌%◌, ◌^◌, ◌<◌, ◌≤◌, List, [], ◌∷◌, ◌++◌, length, refl, sym, ap, subst, ◌∙◌, ⊎_elim, arith, length-append, Ordering}
use Rattle.std.specs.Int.Digits.{number_from_digits, number_from_digits_after, AllBelowBase}
use Rattle.std.proofs.lemmas.Int.Digits.{number_push, number_lt}
use Rattle.std.proofs.lemmas.Nat.{div-add-mod'}
use Rattle.std.proofs.Math.Nat.{pow-zero, pow-suc, div-lt_iff_lt-mul, mul-le-mul_right, mul_comm, mul_assoc}
use Rattle.std.proofs.lemmas.Map.Lookups.{exact_bytes}
use Rattle.std.proofs.lemmas.Bool.{cases_order}
use Rattle.std.proofs.lemmas.Bool.Decides.{nat_tests}
use Rattle.std.specs.Ordering.{nat_cmp, ordering_then}
use Rattle.std.specs.Cmp.Lexicographic.{slice_cmp}
use Rattle.std.specs.declared.cmp.Ordering.TheVariants.{Less, Equal, Greater}
use Rattle.base.proofs.Bools.{nat_cmp-Less, nat_cmp-Equal, nat_cmp-Greater}
use Rattle.base.specs.FixedDigits.{fixed_digits}

pub length-fixed_digits : (base count number : ℕ) → length (fixed_digits base count number) ≡ count
unfolding fixed_digits
length-fixed_digits _ zero _ = refl
length-fixed_digits base (suc count) number =
    omega (arith, length-append (fixed_digits base count (number / base)) (number % base ∷ []), length-fixed_digits base count (number / base))

below-push : (base digit : ℕ) (digits : List ℕ) → AllBelowBase base digits → digit < base → AllBelowBase base (digits ++ digit ∷ [])
below-push _ _ [] all low = (low, tt)
below-push base digit (d ∷ digits) all low = (all.0, below-push base digit digits all.1 low)

pub below-fixed_digits : (base count number : ℕ) → 0 < base → AllBelowBase base (fixed_digits base count number)
unfolding fixed_digits
below-fixed_digits _ zero _ some = tt
below-fixed_digits base (suc count) number some =
    below-push _ _ _ (below-fixed_digits _ count (number / base) some) (omega arith)

pub number-fixed_digits : (base count number : ℕ) → 0 < base → number < base ^ count → number_from_digits base (fixed_digits base count number) ≡ number
unfolding fixed_digits
number-fixed_digits base zero _ some fits = omega (arith, pow-zero base)
number-fixed_digits base (suc count) number some fits =
    let enough : number < base ^ count * base = rw (← pow-suc) fits in
    let smaller : number / base < base ^ count = (div-lt_iff_lt-mul some).1 enough in
    number_push base (fixed_digits base count (number / base)) (number % base)
    ∙ ap (λ n. n * base + number % base) (number-fixed_digits base count _ some smaller)
    ∙ div-add-mod' number base

cmp-shift : (c d e : ℕ) → nat_cmp (c + d) (c + e) ≡ nat_cmp d e
cmp-shift c d e = grind (arith, nat_tests)

cmp-below : (base a b d e : ℕ) → d < base → a < b → nat_cmp (a * base + d) (b * base + e) ≡ ordering_then (nat_cmp a b) (nat_cmp d e)
cmp-below base a b d e low below =
    let far : (a + 1) * base ≤ b * base = mul-le-mul_right base (omega arith) in
    let lower : a * base + d < b * base + e = omega arith in
    nat_cmp-Less _ _ lower ∙ sym (ap (λ o. ordering_then o (nat_cmp d e)) (nat_cmp-Less a b below))

cmp-above : (base a b d e : ℕ) → e < base → b < a → nat_cmp (a * base + d) (b * base + e) ≡ ordering_then (nat_cmp a b) (nat_cmp d e)
cmp-above base a b d e low above =
    let far : (b + 1) * base ≤ a * base = mul-le-mul_right base (omega arith) in
    let higher : b * base + e < a * base + d = omega arith in
    nat_cmp-Greater _ _ higher ∙ sym (ap (λ o. ordering_then o (nat_cmp d e)) (nat_cmp-Greater a b above))

cmp-same : (base a b d e : ℕ) → a ≡ b → nat_cmp (a * base + d) (b * base + e) ≡ ordering_then (nat_cmp a b) (nat_cmp d e)
cmp-same base a b d e same =
    subst (λ x. nat_cmp (a * base + d) (x * base + e) ≡ ordering_then (nat_cmp a x) (nat_cmp d e)) same
    (cmp-shift _ d e ∙ sym (ap (λ o. ordering_then o (nat_cmp d e)) (nat_cmp-Equal a)))

-- numbers of one more digit
cmp-digit : (base a b d e : ℕ) → d < base → e < base → nat_cmp (a * base + d) (b * base + e) ≡ ordering_then (nat_cmp a b) (nat_cmp d e)
cmp-digit base a b d e low_d low_e = ⊎_elim (λ same. cmp-same base a b d e same) (⊎_elim (λ below. cmp-below base a b d e low_d below) (λ above. cmp-above base a b d e low_e above)) (cases_order a b)

pub then_equal : (p : Ordering) → ordering_then p Equal ≡ p
then_equal Less = refl
then_equal Equal = refl
then_equal Greater = refl

pub then_assoc : (p q r : Ordering) → ordering_then (ordering_then p q) r ≡ ordering_then p (ordering_then q r)
then_assoc Less q r = refl
then_assoc Equal q r = refl
then_assoc Greater q r = refl

-- equally many digits are in the order of their numbers
pub cmp-digits : (base a b : ℕ) (ds es : List ℕ) → length ds ≡ length es → AllBelowBase base ds → AllBelowBase base es
    → nat_cmp (number_from_digits_after base a ds) (number_from_digits_after base b es) ≡ ordering_then (nat_cmp a b) (slice_cmp nat_cmp ds es)
cmp-digits _ a b [] [] same all_d all_e = sym (then_equal _)
cmp-digits _ a b [] (e ∷ es) same all_d all_e = absurd (omega arith)
cmp-digits _ a b (d ∷ ds) [] same all_d all_e = absurd (omega arith)
cmp-digits base a b (d ∷ ds) (e ∷ es) same all_d all_e =
    cmp-digits base (a * base + d) (b * base + e) ds es (omega arith) all_d.1 all_e.1
    ∙ ap (λ o. ordering_then o (slice_cmp nat_cmp ds es)) (cmp-digit _ a b d e all_d.0 all_e.0)
    ∙ then_assoc (nat_cmp a b) (nat_cmp d e) (slice_cmp nat_cmp ds es)

-- the digits behind a number move it up
pub number_after-ge : (base number : ℕ) (digits : List ℕ) → number * base ^ length digits ≤ number_from_digits_after base number digits
number_after-ge base _ [] = rw (pow-zero base) (omega arith)
number_after-ge base number (d ∷ digits) =
    let more : number * base * base ^ length digits ≤ (number * base + d) * base ^ length digits = mul-le-mul_right (base ^ length digits) (omega arith) in
    let step : number * base ^ suc (length digits) ≡ number * base * base ^ length digits = rw (pow-suc, mul_comm (base ^ length digits) base) (sym (mul_assoc number base (base ^ length digits))) in
    omega (arith, number_after-ge base (number * base + d) digits)

-- a number has one text of so many digits
pub fixed_digits-only : (base number : ℕ) (digits : List ℕ) → 0 < base → AllBelowBase base digits → number_from_digits base digits ≡ number → digits ≡ fixed_digits base (length digits) number
fixed_digits-only base number digits some all is =
    let others = fixed_digits base (length digits) number in
    let fits : number < base ^ length digits = subst (λ n. n < base ^ length digits) is (number_lt base digits all) in
    let order = cmp-digits base 0 0 _ _ (sym (length-fixed_digits _ _ _)) all (below-fixed_digits _ _ _ some) in
    exact_bytes digits others (sym order ∙ (λ i. nat_cmp (is i) (number-fixed_digits _ _ _ some fits i)) ∙ nat_cmp-Equal number)
