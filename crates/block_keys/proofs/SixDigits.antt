-- The six digits of a segment's number.
use Rattle.std.proofs.Common.{◌≡◌, ℕ, ◌+◌, ◌^◌, ◌<◌, ◌≤◌, List, [], ◌∷◌, ◌++◌, map, length, refl, sym, ap, subst, ◌∙◌, arith, codes}
use Rattle.std.specs.Char.{digit_value}
use Rattle.std.specs.Cmp.Lexicographic.{slice_cmp}
use Rattle.std.specs.Int.Digits.{number_from_digits, AllBelowBase}
use Rattle.std.specs.Ordering.{nat_cmp, ordering_then}
use Rattle.std.specs.Str.Parse.{digits_value, AllDigits}
use Rattle.std.proofs.lemmas.Bool.Decides.{nat_tests}
use Rattle.std.proofs.lemmas.Int.Digits.{digits_value_is, digits_value-lt, all_below_base_from_digits}
use Rattle.std.proofs.lemmas.List.{length-map}
use Rattle.std.proofs.lemmas.Str.Parse.{digit_from_value}
use Rattle.base.specs.FixedDigits.{fixed_digits}
use Rattle.base.proofs.Positional.{length-fixed_digits, below-fixed_digits, number-fixed_digits, fixed_digits-only, cmp-digits}
use Rattle.block_keys.specs.KeyText.{IsSegmentName, six_digits}

-- the character of a decimal digit
abbrev shown : ℕ → ℕ
shown d = 48 + d

digit_value-shown : (d : ℕ) → d < 10 → digit_value (shown d) ≡ d
digit_value-shown d low = grind (arith, nat_tests)

shown-digit_value : (c : ℕ) → digit_value c < 10 → c ≡ shown (digit_value c)
shown-digit_value c low = let range = digit_from_value c low in grind (arith, nat_tests)

values-shown : (digits : List ℕ) → AllBelowBase 10 digits → map digit_value (map shown digits) ≡ digits
values-shown [] all = refl
values-shown (d ∷ digits) all = let first = digit_value-shown d all.0 in let others = values-shown digits all.1 in cc

AllDigits-shown : (digits : List ℕ) → AllBelowBase 10 digits → AllDigits 10 (map shown digits)
AllDigits-shown [] all = tt
AllDigits-shown (d ∷ digits) all = (subst (λ n. n < 10) (sym (digit_value-shown d all.0)) all.0, AllDigits-shown digits all.1)

shown-values : (text : List ℕ) → AllDigits 10 text → text ≡ map shown (map digit_value text)
shown-values [] all = refl
shown-values (c ∷ text) all = let first = shown-digit_value c all.0 in let others = shown-values text all.1 in cc

pub IsSegmentName-six_digits : (n : ℕ) → 1 ≤ n → n ≤ 999_999 → IsSegmentName (codes "chunks/" ++ six_digits n) n
unfolding six_digits
IsSegmentName-six_digits n some small =
    let digits = fixed_digits 10 6 n in
    let below : AllBelowBase 10 digits = below-fixed_digits 10 6 n (omega arith) in
    record {
      digits = map shown digits;
      name_is = refl;
      count = length-map digits shown ∙ length-fixed_digits 10 6 n;
      decimal = AllDigits-shown digits below;
      number_is = sym (digits_value_is 10 (map shown digits) ∙ ap (number_from_digits 10) (values-shown digits below) ∙ number-fixed_digits 10 6 n (omega arith) (omega arith));
      first = some;
    }

pub IsSegmentName-small : (name : List ℕ) (n : ℕ) → IsSegmentName name n → n ≤ 999_999
IsSegmentName-small name n is =
    let low : digits_value 10 is.digits < 10 ^ length is.digits = digits_value-lt 10 is.digits is.decimal in
    let power : 10 ^ length is.digits ≡ 10 ^ 6 = ap (λ k. 10 ^ k) is.count in
    let at : digits_value 10 is.digits < 10 ^ 6 = subst (λ p. digits_value 10 is.digits < p) power low in
    let number = is.number_is in
    omega arith

cmp-shift : (d e : ℕ) → nat_cmp (shown d) (shown e) ≡ nat_cmp d e
cmp-shift d e = grind (arith, nat_tests)

-- six digits in base ten are in the order of their numbers
cmp-six : (ds es : List ℕ) (m n : ℕ) → length ds ≡ 6 → length es ≡ 6 → AllBelowBase 10 ds → AllBelowBase 10 es
    → number_from_digits 10 ds ≡ m → number_from_digits 10 es ≡ n → slice_cmp nat_cmp ds es ≡ nat_cmp m n
cmp-six ds es m n six_d six_e all_d all_e is_m is_n =
    let order : nat_cmp (number_from_digits 10 ds) (number_from_digits 10 es) ≡ slice_cmp nat_cmp ds es =
    cmp-digits 10 0 0 ds es (six_d ∙ sym six_e) all_d all_e in
    sym order ∙ ap (λ k. nat_cmp k (number_from_digits 10 es)) is_m ∙ ap (nat_cmp m) is_n

cmp-shown : (ds es : List ℕ) → slice_cmp nat_cmp (map shown ds) (map shown es) ≡ slice_cmp nat_cmp ds es
cmp-shown [] [] = refl
cmp-shown [] (e ∷ es) = refl
cmp-shown (d ∷ ds) [] = refl
cmp-shown (d ∷ ds) (e ∷ es) =
    ap (λ o. ordering_then o (slice_cmp nat_cmp (map shown ds) (map shown es))) (cmp-shift d e)
    ∙ ap (λ o. ordering_then (nat_cmp d e) o) (cmp-shown ds es)

-- six digits stand in the order of their numbers
pub slice_cmp-six_digits : (m n : ℕ) → m ≤ 999_999 → n ≤ 999_999 → slice_cmp nat_cmp (six_digits m) (six_digits n) ≡ nat_cmp m n
unfolding six_digits
slice_cmp-six_digits m n low_m low_n =
    cmp-shown (fixed_digits 10 6 m) (fixed_digits 10 6 n)
    ∙ cmp-six (fixed_digits 10 6 m) (fixed_digits 10 6 n) m n (length-fixed_digits 10 6 m) (length-fixed_digits 10 6 n)
    (below-fixed_digits 10 6 m (omega arith)) (below-fixed_digits 10 6 n (omega arith))
    (number-fixed_digits 10 6 m (omega arith) (omega arith)) (number-fixed_digits 10 6 n (omega arith) (omega arith))

-- a segment has one name
pub IsSegmentName-unique : (name : List ℕ) (n : ℕ) → IsSegmentName name n → name ≡ codes "chunks/" ++ six_digits n
unfolding six_digits
IsSegmentName-unique name n is =
    let values : number_from_digits 10 (map digit_value is.digits) ≡ n = sym (digits_value_is 10 is.digits) ∙ sym is.number_is in
    let same : map digit_value is.digits ≡ fixed_digits 10 6 n =
    fixed_digits-only 10 n (map digit_value is.digits) (omega arith) (all_below_base_from_digits 10 is.digits is.decimal) values
    ∙ ap (λ count. fixed_digits 10 count n) (length-map is.digits digit_value ∙ is.count) in
    is.name_is ∙ ap (λ (t : List ℕ). codes "chunks/" ++ t) (shown-values is.digits is.decimal ∙ ap (map shown) same)
