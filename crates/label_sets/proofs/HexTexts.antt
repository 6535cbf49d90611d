-- Patterns as 16 digits in base 16, and the number that such digits write.
use Rattle.std.proofs.Common.{◌≡◌, ◌≢◌, ℕ, ◌+◌, ◌-◌, ◌*◌, ◌^◌, ◌<◌, ◌≤◌, Bool, true, false, ◌&&◌, cond, eqb, List, [], ◌∷◌, map, length, take, get_or, Some, None, refl, sym, ap, subst, ◌∙◌, arith, eq-eqb}
use Rattle.std.proofs.lemmas.Bool.{and_parts}
use Rattle.std.proofs.lemmas.Bool.Decides.{nat_tests}
use Rattle.std.proofs.lemmas.Int.Digits.{digits_value_is, digits_value-lt, digits_value_more, all_below_base_from_digits}
use Rattle.std.proofs.lemmas.List.{length-map}
use Rattle.std.proofs.lemmas.List.Sums.{AllPass-from_list_all}
use Rattle.std.proofs.lemmas.Str.Parse.{digits_value-take-le}
use Rattle.std.specs.Char.{digit_value, is_ascii_digit}
use Rattle.std.specs.Int.Digits.{number_from_digits, AllBelowBase}
use Rattle.std.specs.List.{list_all}
use Rattle.std.specs.Str.Parse.{AllDigits, digits_value}
use Rattle.base.specs.FixedDigits.{fixed_digits}
use Rattle.base.proofs.Positional.{length-fixed_digits, below-fixed_digits, number-fixed_digits, fixed_digits-only}
use Rattle.label_sets.specs.SampleText.{hex_sign, hex_text, is_hex_sign, hex_number, pattern_text, pattern_of}

-- a digit's sign
sign_of_digit : (d : ℕ) → d < 16 → (digit_value (hex_sign d) ≡ d) × (is_hex_sign (hex_sign d) ≡ true)
unfolding hex_sign is_hex_sign
sign_of_digit d low = (grind (arith, nat_tests), grind (arith, nat_tests))

digit_of_sign : (byte : ℕ) → is_hex_sign byte ≡ true → (hex_sign (digit_value byte) ≡ byte) × (digit_value byte < 16) × (byte ≢ 43)
unfolding hex_sign is_hex_sign
digit_of_sign _ is = (grind (arith, nat_tests), grind (arith, nat_tests), grind (arith, nat_tests))

-- texts of signs are digits
digits_of_signs : (text : List ℕ) → list_all is_hex_sign text ≡ true → AllDigits 16 text × (map hex_sign (map digit_value text) ≡ text)
digits_of_signs [] all = (tt, refl)
digits_of_signs (c ∷ text) all =
    let p = and_parts (is_hex_sign c) (list_all is_hex_sign text) all in
    let first = digit_of_sign c p.0 in
    let others = digits_of_signs _ p.1 in
    ((first.1, others.0), λ i. first.0 i ∷ others.1 i)

-- and digits are written by signs
signs_of_digits : (digits : List ℕ) → AllBelowBase 16 digits → (list_all is_hex_sign (map hex_sign digits) ≡ true) × (map digit_value (map hex_sign digits) ≡ digits)
signs_of_digits [] all = (refl, refl)
signs_of_digits (d ∷ digits) all =
    let first = sign_of_digit d all.0 in
    let others = signs_of_digits _ all.1 in
    (λ i. first.1 i && others.0 i, λ i. first.0 i ∷ others.1 i)

test_passed : (b : Bool) (x : ℕ) (y : ℕ) → cond b (Some x) None ≡ Some y → (b ≡ true) × (x ≡ y)
test_passed true x y e = (refl, cc)
test_passed false x y e = absurd cc

sixteen : (digits : List ℕ) → eqb (length digits) 16 ≡ true → length digits ≡ 16
sixteen _ e = grind (arith, nat_tests)

small : (digits : List ℕ) → AllDigits 16 digits → length digits ≡ 16 → digits_value 16 digits < 2 ^ 64
small digits all long =
    let low = subst (λ n. digits_value 16 digits < 16 ^ n) long (digits_value-lt _ _ all) in
    omega arith

-- what is read as a pattern is the text of the pattern
pub pattern_found : (digits : List ℕ) (pattern : ℕ) → pattern_of digits ≡ Some pattern → (digits ≡ pattern_text pattern) × (pattern < 2 ^ 64)
unfolding pattern_of pattern_text hex_text hex_number
pattern_found digits pattern e =
    let t = test_passed _ _ _ e in
    let b = and_parts (eqb (length digits) 16) (list_all is_hex_sign digits) t.0 in
    let long = sixteen _ b.0 in
    let known = digits_of_signs _ b.1 in
    let values = fixed_digits-only _ _ _ (omega arith) (all_below_base_from_digits _ _ known.0) (sym (digits_value_is 16 digits) ∙ t.1) in (
      sym known.1 ∙ ap (map hex_sign) (values ∙ ap (λ n. fixed_digits 16 n pattern) (length-map _ _ ∙ long)),
      subst (λ n. n < 2 ^ 64) t.1 (small _ known.0 long),
    )

-- and the text of each pattern is read
pub pattern_again : (pattern : ℕ) → pattern < 2 ^ 64 → pattern_of (pattern_text pattern) ≡ Some pattern
unfolding pattern_of pattern_text hex_text hex_number
pattern_again pattern fits =
    let digits = fixed_digits 16 16 pattern in
    let text = map hex_sign digits in
    let below = below-fixed_digits _ _ _ (omega arith) in
    let signs = signs_of_digits _ below in
    let long = eq-eqb _ _ (length-map _ _ ∙ length-fixed_digits _ _ _) in
    let number = digits_value_is 16 text ∙ ap (number_from_digits 16) signs.1 ∙ number-fixed_digits _ _ _ (omega arith) (omega arith) in
    (λ i. cond (long i && signs.0 i) (Some (number i)) None)

-- what a sign is worth
pub figure_value : (sign : ℕ) → is_ascii_digit sign ≡ true → sign - 48 ≡ digit_value sign
figure_value sign is = grind (arith, nat_tests)

pub letter_least : (sign : ℕ) → is_hex_sign sign ≡ true → is_ascii_digit sign ≡ false → 97 ≤ sign
unfolding is_hex_sign
letter_least sign is other = grind (arith, nat_tests)

pub letter_value : (sign : ℕ) → is_hex_sign sign ≡ true → is_ascii_digit sign ≡ false → sign - 97 + 10 ≡ digit_value sign
unfolding is_hex_sign
letter_value sign is other = grind (arith, nat_tests)

-- what is made of the digits is the pattern
pub pattern_read : (digits : List ℕ) → length digits ≡ 16 → list_all is_hex_sign digits ≡ true → Some (digits_value 16 digits) ≡ pattern_of digits
unfolding pattern_of hex_number
pattern_read digits long all =
    let test = eq-eqb _ _ long in
    (λ i. cond (sym test i && sym all i) (Some (digits_value 16 digits)) None)

-- the number of the signs so far, with the next one
pub number_at : (signs : List ℕ) (i number : ℕ) → list_all is_hex_sign signs ≡ true → length signs ≡ 16 → i < length signs → number ≡ digits_value 16 (take i signs)
    → (is_hex_sign (get_or signs i 0) ≡ true) × (number * 16 + digit_value (get_or signs i 0) ≡ digits_value 16 (take (i + 1) signs)) × (number * 16 + digit_value (get_or signs i 0) < 2 ^ 64)
number_at signs i number all long low so_far =
    let sign : is_hex_sign (get_or signs i 0) ≡ true = AllPass-from_list_all is_hex_sign signs all i 0 low in
    let more = digits_value_more 16 signs i low in
    let next : number * 16 + digit_value (get_or signs i 0) ≡ digits_value 16 (take (i + 1) signs) = rw (more, so_far) refl in
    let front = digits_value-take-le 16 signs (i + 1) (omega arith) in
    let whole = small signs (digits_of_signs signs all).0 long in
    (sign, next, omega (arith, next, front, whole))

-- and a text that fails a test is none
pub pattern_unread : (digits : List ℕ) → length digits ≢ 16 → pattern_of digits ≡ None
unfolding pattern_of
pattern_unread digits other = let test : eqb (length digits) 16 ≡ false = grind (arith, nat_tests) in ap (λ b. cond (b && list_all is_hex_sign digits) (Some (hex_number digits)) None) test
