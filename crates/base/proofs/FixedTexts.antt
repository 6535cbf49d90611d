-- Numbers in a fixed count of digits as text, written from the last digit on.
use Rattle.std.proofs.Common.{◌≡◌, ℕ, zero, suc, ◌-◌, ◌/◌, ◌%◌, ◌<◌, ◌≤◌, List, [], ◌∷◌, ◌++◌, map, length, drop, refl, sym, ap, ◌∙◌, arith, append_assoc, add-one}
use Rattle.std.proofs.lemmas.List.{map-append, drop-set, append-nil}
use Rattle.std.proofs.Math.ListN.{set}
use Rattle.base.specs.FixedDigits.{fixed_digits}

pub none_written : (base count : ℕ) (sign : ℕ → ℕ) (number whole : ℕ) → whole ≡ number → map sign (fixed_digits base count whole) ++ [] ≡ map sign (fixed_digits base count number)
none_written base count sign _ _ same = append-nil _ ∙ ap (λ n. map sign (fixed_digits base count n)) same

-- one digit more
written_at : (base : ℕ) (sign : ℕ → ℕ) (whole text : List ℕ) (place rest c : ℕ) → place < length text → c ≡ sign (rest % base)
    → map sign (fixed_digits base (suc place) rest) ++ drop (suc place) text ≡ whole
    → map sign (fixed_digits base place (rest / base)) ++ drop place (set text place c) ≡ whole
unfolding fixed_digits
written_at base sign _ text place rest c low is so_far =
    let tail =
    drop-set _ _ c low ∙ rw (is, add-one) refl in
    let front =
    map-append _ _ _ in
    ap (λ t. map sign (fixed_digits base place (rest / base)) ++ t) tail
    ∙ sym (append_assoc (map sign (fixed_digits base place (rest / base))) (sign (rest % base) ∷ []) (drop (suc place) text))
    ∙ ap (λ t. t ++ drop (suc place) text) (sym front) ∙ so_far

pub one_written : (base : ℕ) (sign : ℕ → ℕ) (whole text : List ℕ) (place rest c : ℕ) → 0 < place → place ≤ length text → c ≡ sign (rest % base)
    → map sign (fixed_digits base place rest) ++ drop place text ≡ whole
    → map sign (fixed_digits base (place - 1) (rest / base)) ++ drop (place - 1) (set text (place - 1) c) ≡ whole
one_written _ _ _ _ zero _ c some low is so_far = absurd (omega arith)
one_written _ _ _ _ (suc place) _ c some low is so_far =
    let one : suc place - 1 ≡ place = omega arith in
    rw one (written_at _ _ _ _ _ _ c (omega arith) is so_far)

pub all_written : (base : ℕ) (sign : ℕ → ℕ) (whole text : List ℕ) (place rest : ℕ) → place ≤ 0 → map sign (fixed_digits base place rest) ++ drop place text ≡ whole → text ≡ whole
unfolding fixed_digits
all_written _ _ _ _ zero _ none all = all
all_written _ _ _ _ (suc place) _ none all = absurd (omega arith)
