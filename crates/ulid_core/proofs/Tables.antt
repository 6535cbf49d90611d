-- The alphabet both ways, computed for each digit and each byte.
use Rattle.std.proofs.Common.{◌≡◌, ℕ, ◌≤◌, zero, suc, ◌+◌, ◌-◌, ◌<◌, Bool, true, false, ◌&&◌, Option, None, Some, eqb, leb, cond, refl, ap, subst, ⊎_elim, arith, List, length, get_or, Ordering}
use Rattle.std.proofs.lemmas.Bool.{and_parts, cases_lt}
use Rattle.std.proofs.lemmas.Bool.Decides.{nat_tests}
use Rattle.std.proofs.lemmas.List.Quantifiers.{position-Some}
use Rattle.std.specs.Ordering.{nat_cmp}
use Rattle.std.specs.List.{position}
use Rattle.std.specs.declared.cmp.Ordering.TheVariants.{Less, Equal, Greater}
use Rattle.ulid_core.specs.UlidText.{alphabet, character, digit_of}

-- p holds of each number below n
abbrev pub pass_below : (ℕ → Bool) → ℕ → Bool
pass_below p zero = true
pass_below p (suc n) = p n && pass_below p n

pub passes_at : (p : ℕ → Bool) (n k : ℕ) → pass_below p n ≡ true → k < n → p k ≡ true
passes_at p zero k all low = absurd (omega arith)
passes_at p (suc n) k all low =
    let parts = and_parts (p n) (pass_below p n) all in
    ⊎_elim (λ lower. passes_at p n k parts.1 lower) (λ high. let e : n ≡ k = omega arith in subst (λ i. p i ≡ true) e parts.0) (cases_lt k n)

-- two options of numbers are the same
abbrev pub same : Option ℕ → Option ℕ → Bool
same None None = true
same None (Some y) = false
same (Some x) None = false
same (Some x) (Some y) = eqb x y

pub equal_from_same : (a b : Option ℕ) → same a b ≡ true → a ≡ b
equal_from_same None None h = refl
equal_from_same None (Some y) h = absurd (cc)
equal_from_same (Some x) None h = absurd (cc)
equal_from_same (Some x) (Some y) h = let e : x ≡ y = grind (arith, nat_tests) in ap Some e

pub digit_of-character : (digit : ℕ) → digit < 32 → digit_of (character digit) ≡ Some digit
unfolding alphabet character digit_of
digit_of-character digit low =
    equal_from_same (digit_of (character digit)) (Some digit)
    (passes_at (λ d. same (digit_of (character d)) (Some d)) 32 digit refl low)

placed : (xs : List ℕ) (byte place : ℕ) → position (λ c. eqb c byte) xs ≡ Some place → (place < length xs) × (get_or xs place 0 ≡ byte)
placed xs byte place is =
    let found = position-Some (λ c. eqb c byte) xs place 0 is in
    let test : eqb (get_or xs place 0) byte ≡ true = found.1 in
    (found.0, grind (arith, nat_tests))

pub character-digit_of : (byte digit : ℕ) → digit_of byte ≡ Some digit → (digit < 32) × (character digit ≡ byte)
unfolding alphabet character digit_of
character-digit_of byte digit is = placed alphabet byte digit is

-- what two orders answer is the same
abbrev alike : Ordering → Ordering → Bool
alike Less Less = true
alike Equal Equal = true
alike Greater Greater = true
alike _ _ = false

equal_from_alike : (a b : Ordering) → alike a b ≡ true → a ≡ b
equal_from_alike Less Less h = refl
equal_from_alike Equal Equal h = refl
equal_from_alike Greater Greater h = refl
equal_from_alike _ _ h = absurd (cc)

-- characters stand in the order of their digits
pub nat_cmp-character : (d e : ℕ) → d < 32 → e < 32 → nat_cmp (character d) (character e) ≡ nat_cmp d e
unfolding alphabet character
nat_cmp-character d e low_d low_e =
    equal_from_alike _ _
    (passes_at (λ y. alike (nat_cmp (character d) (character y)) (nat_cmp d y)) 32 e
    (passes_at (λ x. pass_below (λ y. alike (nat_cmp (character x) (character y)) (nat_cmp x y)) 32) 32 d refl low_d) low_e)

-- characters lie between `0` and `Z`
pub character-range : (d : ℕ) → d < 32 → (48 ≤ character d) × (character d ≤ 90)
unfolding alphabet character
character-range d low =
    let above : leb 48 (character d) ≡ true = passes_at (λ x. leb 48 (character x)) 32 d refl low in
    let below : leb (character d) 90 ≡ true = passes_at (λ x. leb (character x) 90) 32 d refl low in
    (grind (arith, nat_tests), grind (arith, nat_tests))

equal_from_same_test : (a b : Bool) → eqb (cond a 1 0) (cond b 1 0) ≡ true → a ≡ b
equal_from_same_test true true h = refl
equal_from_same_test false false h = refl
equal_from_same_test true false h = absurd (cc)
equal_from_same_test false true h = absurd (cc)

-- the digits up to 7 have the characters up to `7`
pub leb-character : (d : ℕ) → d < 32 → leb (character d) 55 ≡ leb d 7
unfolding alphabet character
leb-character d low =
    equal_from_same_test (leb (character d) 55) (leb d 7)
    (passes_at (λ x. eqb (cond (leb (character x) 55) 1 0) (cond (leb x 7) 1 0)) 32 d refl low)

-- the alphabet by its unbroken parts
abbrev pub digit_by_range : ℕ → Option ℕ
digit_by_range c =
    cond (leb 48 c && leb c 57) (Some (c - 48))
    (cond (leb 65 c && leb c 72) (Some (c - 65 + 10))
    (cond (leb 74 c && leb c 75) (Some (c - 74 + 18))
    (cond (leb 77 c && leb c 78) (Some (c - 77 + 20))
    (cond (leb 80 c && leb c 84) (Some (c - 80 + 22))
    (cond (leb 86 c && leb c 90) (Some (c - 86 + 27)) None)))))

pub digit_of_range : (c : ℕ) → c < 256 → digit_of c ≡ digit_by_range c
unfolding alphabet digit_of
digit_of_range c low = equal_from_same _ _ (passes_at (λ x. same (digit_of x) (digit_by_range x)) 256 c refl low)

pub ruleset digits = (nat_tests, digit_of_range)
