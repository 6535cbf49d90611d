-- Times that come after others.
use Rattle.std.proofs.Common.{◌≡◌, ℕ, zero, suc, ◌-◌, ◌^◌, ◌<◌, false, Result, Ok, Err, refl, sym, ap, subst, ◌∙◌, arith, inl, inr, ℤ, pos, negsuc, ◌+ℤ◌, ◌≤ℤ◌, ◌<ℤ◌}
use Rattle.std.specs.Prelude.{FitsSigned, unsigned_abs}
use Rattle.std.specs.Result.{OkIff}
use Rattle.std.specs.Int.{w64, w128, cast_signed, cast_unsigned}
use Rattle.std.proofs.lemmas.Bool.{le-ltb, cases_lt}
use Rattle.std.proofs.lemmas.Int.{ints, to_z-of_z}
use Rattle.base.specs.Decimal.{fits_signed}
use Rattle.base.proofs.Binds.{ok_is}
use Rattle.base.proofs.SignedRanges.{test_from_fits}
use Rattle.xor_chunks.specs.declared.refusal.XorRefusal.TheVariants.{Falling, OutOfRange}
use Rattle.xor_chunks.specs.Steps.{time_after}

pub fits_false : (z : ℤ) → (FitsSigned w64 z → ⊥) → fits_signed z ≡ false
fits_false (pos n) outside = elim (cases_lt n (2 ^ 63)) [ inl lt ↦ absurd (outside (record { sfits = lt })) | inr le ↦ le-ltb n (2 ^ 63) le ]
fits_false (negsuc n) outside = elim (cases_lt n (2 ^ 63)) [ inl lt ↦ absurd (outside (record { sfits = lt })) | inr le ↦ le-ltb n (2 ^ 63) le ]

-- the sum of a time and a step, as the code computes it
pub sum_is : (time delta from : ℤ) → from ≡ cast_signed w64 (cast_unsigned w64 time) → FitsSigned w64 time → FitsSigned w128 delta → negsuc (2 ^ 65) ≤ℤ delta → delta ≤ℤ pos (2 ^ 65)
    → cast_signed w128 (cast_unsigned w128 (cast_signed w128 (cast_unsigned w128 from) +ℤ cast_signed w128 (cast_unsigned w128 delta))) ≡ time +ℤ delta
sum_is _ _ _ e t d low high = omega (arith, ints)

pub refused_out : {E : Type 0} (r : Result ℤ E) (time delta z : ℤ) → OkIff r (FitsSigned w64 z) z → ((x : ℤ) → r ≡ Ok x → ⊥) → z ≡ time +ℤ delta → time_after time delta ≡ Err OutOfRange
unfolding time_after
refused_out (Ok x) _ _ z h outside e = absurd (outside x refl)
refused_out (Err d) time delta z h outside e = rw (fits_false (time +ℤ delta) (subst (λ w. FitsSigned w64 w → ⊥) e h)) refl

pub taken_in : {E : Type 0} (r : Result ℤ E) (time delta z after : ℤ) → OkIff r (FitsSigned w64 z) z → r ≡ Ok after → z ≡ time +ℤ delta → FitsSigned w64 (time +ℤ delta) × (after ≡ time +ℤ delta)
taken_in {E = E} (Ok x) _ _ z _ h e same = (subst (λ w. FitsSigned w64 w) same h.0, sym (ok_is {E = E} x _ e) ∙ h.1 ∙ same)
taken_in (Err d) _ _ z _ h e same = absurd cc

pub refused_falling : (time delta : ℤ) → FitsSigned w64 (time +ℤ delta) → delta ≤ℤ pos 0 → time_after time delta ≡ Err Falling
unfolding time_after
refused_falling time (pos zero) fits le = rw (test_from_fits (time +ℤ pos zero) fits) refl
refused_falling _ (pos (suc n)) fits le = absurd (omega (arith, ints, le))
refused_falling time (negsuc n) fits le = rw (test_from_fits (time +ℤ negsuc n) fits) refl

pub is_after : (time delta : ℤ) → FitsSigned w64 (time +ℤ delta) → pos 1 ≤ℤ delta → time_after time delta ≡ Ok (time +ℤ delta, unsigned_abs delta)
unfolding time_after
is_after _ (pos zero) fits le = absurd (omega arith)
is_after time (pos (suc n)) fits le = rw (test_from_fits (time +ℤ pos (suc n)) fits) refl
is_after _ (negsuc n) fits le = absurd (omega arith)

-- the value as the code gives it
pub is_after_cast : (time delta after : ℤ) → FitsSigned w64 (time +ℤ delta) × (after ≡ time +ℤ delta) → FitsSigned w128 delta → pos 1 ≤ℤ delta
    → time_after time delta ≡ Ok (cast_signed w64 (cast_unsigned w64 after), unsigned_abs (cast_signed w128 (cast_unsigned w128 delta)))
is_after_cast time delta after taken range le =
    is_after _ _ taken.0 le ∙ ap (λ p. Ok p) (ap (λ z. (z, unsigned_abs delta)) (sym (to_z-of_z w64 (time +ℤ delta) taken.0) ∙ ap (λ z. cast_signed w64 (cast_unsigned w64 z)) (sym taken.1)) ∙ ap (λ z. (cast_signed w64 (cast_unsigned w64 after), unsigned_abs z)) (sym (to_z-of_z w128 delta range)))

-- ---- the same in 64 bits

pub ok_iff : {E : Type 0} (r : Result ℤ E) (P : Type 0) (z x : ℤ) → OkIff r P z → r ≡ Ok x → P × (x ≡ z)
ok_iff {E = E} (Ok y) P z x h e = (h.0, sym (ok_is {E = E} y x e) ∙ h.1)
ok_iff (Err d) P z x h e = absurd cc

-- a number in its 64 bits
abbrev pub same_64 : ℤ → ℤ
same_64 z = cast_signed w64 (cast_unsigned w64 z)

pub fits_both : (z : ℤ) → negsuc (2 ^ 63 - 1) ≤ℤ z → z <ℤ pos (2 ^ 63) → FitsSigned w64 z
fits_both (pos n) low high = record { sfits = omega (arith, ints, high) }
fits_both (negsuc n) low high = record { sfits = omega (arith, ints, low) }

abbrev pub IsNear : ℤ → Type 0
IsNear z = (negsuc (2 ^ 61) ≤ℤ z) × (z ≤ℤ pos (2 ^ 61))

near_sum : (a b : ℤ) → IsNear a → IsNear b → FitsSigned w64 (a +ℤ b)
near_sum a b p q = fits_both _ (omega (arith, ints, p.0, q.0)) (omega (arith, ints, p.1, q.1))

near_sums : (a b d : ℤ) → IsNear a → IsNear b → IsNear d → FitsSigned w64 (d +ℤ (a +ℤ b))
near_sums a b d p q r = fits_both _ (omega (arith, ints, p.0, q.0, r.0)) (omega (arith, ints, p.1, q.1, r.1))

near_after : (time sum all done : ℤ) → FitsSigned w64 time → sum ≡ all → done ≡ sum → FitsSigned w64 (time +ℤ sum) → pos 1 ≤ℤ done → time_after time all ≡ Ok (same_64 (same_64 time +ℤ done), unsigned_abs done)
near_after time sum _ done t whole same fits_after le =
    let rises = subst (λ z. pos 1 ≤ℤ z) same le in
    let after_is = ap (λ z. same_64 (z +ℤ done)) (to_z-of_z w64 time t) ∙ ap (λ z. same_64 (time +ℤ z)) same ∙ to_z-of_z w64 (time +ℤ sum) fits_after in
    ap (λ z. time_after time z) (sym whole) ∙ is_after _ _ fits_after rises ∙ ap (λ z. Ok (z, unsigned_abs sum)) (sym after_is) ∙ ap (λ z. Ok (same_64 (same_64 time +ℤ done), unsigned_abs z)) (sym same)

cast_small : (n : ℕ) → n < 2 ^ 63 → cast_signed w64 n ≡ pos n
cast_small n lt = omega (arith, ints, lt)

pub near_is : (time change change' : ℤ) (delta : ℕ) → FitsSigned w64 time → FitsSigned w128 change → FitsSigned w64 (cast_signed w128 (cast_unsigned w128 change)) × (change' ≡ cast_signed w128 (cast_unsigned w128 change)) → delta < 2 ^ 61
    → IsNear (same_64 change') → IsNear (same_64 time) → pos 1 ≤ℤ same_64 (cast_signed w64 delta +ℤ same_64 change')
    → time_after time (pos delta +ℤ change) ≡ Ok (same_64 (same_64 time +ℤ same_64 (cast_signed w64 delta +ℤ same_64 change')), unsigned_abs (same_64 (cast_signed w64 delta +ℤ same_64 change')))
near_is time change change' delta t wide a few p r le =
    let change_is = a.1 ∙ to_z-of_z w128 change wide in
    let change_fits : FitsSigned w64 change' = subst (λ (z : ℤ). FitsSigned w64 z) (sym a.1) a.0 in
    let near_change : IsNear change' = subst (λ (z : ℤ). IsNear z) (to_z-of_z w64 change' change_fits) p in
    let near_delta : IsNear (pos delta) = (omega (arith, ints), omega (arith, ints, few)) in
    let near : IsNear time = subst (λ (z : ℤ). IsNear z) (to_z-of_z w64 time t) r in
    let sum_is : cast_signed w64 delta +ℤ same_64 change' ≡ pos delta +ℤ change' = ap (λ (z : ℤ). z +ℤ same_64 change') (cast_small _ (omega (arith, few))) ∙ ap (λ (z : ℤ). pos delta +ℤ z) (to_z-of_z w64 change' change_fits) in
    let sum_same = ap same_64 sum_is ∙ to_z-of_z w64 (pos delta +ℤ change') (near_sum _ _ near_delta near_change) in
    near_after _ _ _ _ t (ap (λ z. pos delta +ℤ z) change_is) sum_same (near_sums _ _ _ near_delta near_change near) le

-- the time after the same step as before
pub steady_after : (time : ℤ) (delta : ℕ) → negsuc (2 ^ 63 - 1) ≤ℤ time → time <ℤ pos (2 ^ 62) → 0 < delta → delta < 2 ^ 62 → time_after time (pos delta +ℤ pos 0) ≡ Ok (same_64 (time +ℤ cast_signed w64 delta), delta)
steady_after time delta low soon some near =
    let fits : FitsSigned w64 (time +ℤ pos delta) = fits_both _ (omega (arith, ints, low)) (omega (arith, ints, soon, near)) in
    let same : pos delta +ℤ pos 0 ≡ pos delta = omega (arith, ints) in
    let sum : same_64 (time +ℤ cast_signed w64 delta) ≡ time +ℤ pos delta = ap (λ (z : ℤ). same_64 (time +ℤ z)) (cast_small _ (omega (arith, near))) ∙ to_z-of_z w64 (time +ℤ pos delta) fits in
    ap (λ (z : ℤ). time_after time z) same ∙ is_after _ _ fits (omega (arith, ints, some)) ∙ ap (λ (z : ℤ). Ok (z, delta)) (sym sum)
