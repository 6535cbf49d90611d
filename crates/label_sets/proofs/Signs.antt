-- The signs of a pattern, two at a time.
use Rattle.std.proofs.Common.{◌≡◌, ℕ, zero, suc, ℤ, ◌+◌, ◌-◌, ◌*◌, ◌/◌, ◌%◌, ◌<◌, ◌≤◌, Bool, true, ◌&&◌, T, eqb, List, [], ◌∷◌, ◌++◌, length, get_or, map, drop, refl, sym, ap, subst, ◌∙◌, inl, inr, arith, eq-zero-or-pos, eqb→eq, append_assoc, length-set}
use Rattle.std.specs.Fmt.{signed_decimal}
use Rattle.std.specs.Int.{w64}
use Rattle.std.specs.Int.RustNames.{FitsSigned}
use Rattle.base.proofs.Printed.{printed_signed}
use Rattle.std.proofs.lemmas.List.{map-append, drop-set}
use Rattle.std.proofs.Math.ListN.{set}
use lib.Ieee.Fits.{and_l, and_r}
use Rattle.base.specs.Decimal.{signed_text}
use Rattle.base.specs.FixedDigits.{fixed_digits}
use Rattle.label_sets.specs.SampleText.{hex_sign, hex_text, pattern_text, timed_text}
use Rattle.label_sets.specs.declared.sample_text.TheConstants.{SIGNS}

-- ---- the table

abbrev are_signs : ℕ → Bool
are_signs zero = true
are_signs (suc n) = (eqb (get_or SIGNS (n * 2) 0) (hex_sign (n / 16)) && eqb (get_or SIGNS (n * 2 + 1) 0) (hex_sign (n % 16))) && are_signs n

below : (count n : ℕ) → T (are_signs count) → n < count → (get_or SIGNS (n * 2) 0 ≡ hex_sign (n / 16)) × (get_or SIGNS (n * 2 + 1) 0 ≡ hex_sign (n % 16))
below zero n t low = absurd (omega arith)
below (suc count) n t low =
    elim (eq-zero-or-pos (count - n)) [
      | inl none ↦ let same : n ≡ count = omega arith in let both = and_l _ (are_signs count) t in rw same (eqb→eq _ _ (and_l _ _ both), eqb→eq _ _ (and_r _ _ both))
      | inr some ↦ below count n (and_r _ (are_signs count) t) (omega arith)
    ]

all_signs : T (are_signs 256)
unfolding hex_sign
all_signs = tt

pub signs_at : (n : ℕ) → n < 256 → (get_or SIGNS (n * 2) 0 ≡ hex_sign (n / 16)) × (get_or SIGNS (n * 2 + 1) 0 ≡ hex_sign (n % 16))
signs_at n low = below _ n all_signs low

-- ---- digits from the last one on, before what stands behind a place

one_before : (whole text : List ℕ) (from place rest c : ℕ) → from + place < length text → c ≡ hex_sign (rest % 16)
    → map hex_sign (fixed_digits 16 (suc place) rest) ++ drop (from + suc place) text ≡ whole
    → map hex_sign (fixed_digits 16 place (rest / 16)) ++ drop (from + place) (set text (from + place) c) ≡ whole
unfolding fixed_digits
one_before _ text from place rest c low is so_far =
    let next : from + place + 1 ≡ from + suc place = omega arith in
    let tail =
    drop-set _ _ c low ∙ rw (is, next) refl in
    let front =
    map-append _ _ _ in
    ap (λ t. map hex_sign (fixed_digits 16 place (rest / 16)) ++ t) tail
    ∙ sym (append_assoc (map hex_sign (fixed_digits 16 place (rest / 16))) (hex_sign (rest % 16) ∷ []) (drop (from + suc place) text))
    ∙ ap (λ t. t ++ drop (from + suc place) text) (sym front) ∙ so_far

-- the signs that are still to come and those that stand behind them are the whole
abbrev pub Stands : List ℕ → List ℕ → ℕ → ℕ → ℕ → Type 0
Stands whole field from pair rest = map hex_sign (fixed_digits 16 (2 * pair) rest) ++ drop (from + 2 * pair) field ≡ whole

two : (whole field : List ℕ) (from k rest high low : ℕ) → from + suc k < length field → high ≡ hex_sign (rest / 16 % 16) → low ≡ hex_sign (rest % 16)
    → map hex_sign (fixed_digits 16 (suc (suc k)) rest) ++ drop (from + suc (suc k)) field ≡ whole
    → map hex_sign (fixed_digits 16 k (rest / 16 / 16)) ++ drop (from + k) (set (set field (from + suc k) low) (from + k) high) ≡ whole
two _ field from k _ _ low room is_high is_low so_far =
    one_before _ _ _ k _ _ (omega (arith, length-set field (from + suc k) low)) is_high
    (one_before _ _ _ _ _ _ room is_low so_far)

pub two_before : (whole field : List ℕ) (from pair rest high low i j : ℕ) → 0 < pair → from + 16 ≤ length field → pair ≤ 8 → i ≡ from + 2 * (pair - 1) → j ≡ from + 2 * (pair - 1) + 1
    → high ≡ hex_sign (rest % 256 / 16) → low ≡ hex_sign (rest % 256 % 16)
    → Stands whole field from pair rest → Stands whole (set (set field j low) i high) from (pair - 1) (rest / 256)
two_before whole field from pair rest high low i j some long few i_is j_is is_high is_low so_far =
    let k = 2 * (pair - 1) in
    let both : 2 * pair ≡ suc (suc k) = omega arith in
    let j_at : from + suc k ≡ j = omega arith in
    let digit : rest % 256 / 16 ≡ rest / 16 % 16 = omega arith in
    let last : rest % 256 % 16 ≡ rest % 16 = omega arith in
    let left : rest / 16 / 16 ≡ rest / 256 = omega arith in
    let room : from + suc k < length field = omega arith in
    let begun = subst (λ n. map hex_sign (fixed_digits 16 n rest) ++ drop (from + n) field ≡ whole) both so_far in
    let made = two _ _ from k _ _ _ room (is_high ∙ ap hex_sign digit) (is_low ∙ ap hex_sign last) begun in
    subst (λ n. map hex_sign (fixed_digits 16 k n) ++ drop (from + k) (set (set field j low) i high) ≡ whole) left
    (subst (λ n. map hex_sign (fixed_digits 16 k (rest / 16 / 16)) ++ drop (from + k) (set (set field j low) n high) ≡ whole) (sym i_is)
    (subst (λ n. map hex_sign (fixed_digits 16 k (rest / 16 / 16)) ++ drop (from + k) (set (set field n low) (from + k) high) ≡ whole) j_at made))

-- before the first pair, and behind the last one
pub none_stand : (pattern from : ℕ) (field : List ℕ) → Stands (pattern_text pattern ++ drop (from + 16) field) field from 8 pattern
unfolding pattern_text hex_text
none_stand pattern from field = refl

pub all_stand : (whole field : List ℕ) (from pair rest : ℕ) → pair ≤ 0 → Stands whole field from pair rest → drop from field ≡ whole
unfolding fixed_digits
all_stand _ field from zero _ none stands = let here : from ≡ from + 2 * 0 = omega arith in ap (λ n. drop n field) here ∙ stands
all_stand _ _ _ (suc pair) _ none stands = absurd (omega arith)

-- ---- a time and a pattern

-- what is written before a colon and a pattern, after a space
pub spaced : (time : ℤ) (pattern end : ℕ) (old made field : List ℕ) (start : ℕ) → 17 ≤ end → end ≤ length made → 0 < start → start ≤ length field
    → drop (end - 16) made ≡ pattern_text pattern ++ drop (end - 16 + 16) old
    → drop start field ≡ signed_decimal time ++ drop (end - 16 - 1) (set made (end - 16 - 1) 58) → FitsSigned w64 time
    → drop (start - 1) (set field (start - 1) 32) ≡ (32 ∷ timed_text time pattern) ++ drop end old
unfolding timed_text
spaced time pattern end old made field start far long some within signs written fits =
    let back : start - 1 + 1 ≡ start = omega arith in
    let next : end - 16 - 1 + 1 ≡ end - 16 = omega arith in
    let whole : end - 16 + 16 ≡ end = omega arith in
    let rest = pattern_text pattern ++ drop end old in
    let standing = signs ∙ ap (λ n. pattern_text pattern ++ drop n old) whole in
    let colon = drop-set made (end - 16 - 1) 58 (omega arith) ∙ ap (λ n. 58 ∷ drop n made) next ∙ ap (λ t. 58 ∷ t) standing in
    drop-set field (start - 1) 32 (omega arith)
    ∙ ap (λ n. 32 ∷ drop n field) back
    ∙ ap (λ t. 32 ∷ t) (written ∙ ap (λ t. signed_decimal time ++ t) colon ∙ ap (λ t. t ++ 58 ∷ rest) (printed_signed _ fits)
    ∙ sym (append_assoc (signed_text time) (58 ∷ pattern_text pattern) (drop end old)))
