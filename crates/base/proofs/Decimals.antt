-- Decimal texts: the text of a number is digits that have its value, and such digits are the text of their value.
use Rattle.std.proofs.Common.{◌≡◌, ℕ, zero, suc, ◌+◌, ◌*◌, ◌/◌, ◌%◌, ◌<◌, true, false, ltb, eqb, List, [], ◌∷◌, ◌++◌, length, get_or, map, refl, sym, ap, ◌∙◌, arith, rules, tests, ◌≢◌, append_assoc, ◌⊎◌, inl, inr}
use Rattle.std.specs.Prelude.{not, ◌||◌}
use Rattle.std.specs.Char.{digit_value, is_ascii_digit}
use Rattle.std.specs.Int.{IsInRange}
use Rattle.std.specs.List.{list_all}
use Rattle.std.specs.Int.Digits.{digits_of, number_from_digits, number_from_digits_after, AllBelowBase}
use Rattle.std.specs.Str.Parse.{digits_value}
use Rattle.std.proofs.lemmas.Int.Digits.{digits_of_step, digits_value_is, number_digits_of, all_below_base_digits_of, first_digits_of, number_after_ge}
use Rattle.std.proofs.lemmas.Nat.{div-mul-add, mod-mul-add}
use Rattle.std.proofs.lemmas.List.{append-nil, nil_from_length}
use Rattle.std.proofs.lemmas.Bool.{cases_eq, eqb-true, ne_eqb, lt-ltb, and_parts}
use Rattle.std.proofs.lemmas.Str.{digit_value_digit}
use Rattle.std.proofs.lemmas.Str.Parse.{IsDigitsTest, IsNumeralModel, numerals_by_value}
use Rattle.base.specs.Decimal.{decimal_text, is_decimal}

abbrev pub AreDigits : List ℕ → Type 0
AreDigits text = list_all is_ascii_digit text ≡ true

tells : IsDigitsTest AreDigits
tells = search rules

pub digits_are_numerals : IsNumeralModel AreDigits (digits_value 10)
digits_are_numerals = numerals_by_value AreDigits tells

-- digits that follow those of a number
digits_after : (n : ℕ) (ds : List ℕ) → 0 < n → AllBelowBase 10 ds → digits_of 10 (number_from_digits_after 10 n ds) ≡ digits_of 10 n ++ ds
digits_after n [] some low = sym (append-nil (digits_of 10 n))
digits_after n (d ∷ ds) some low =
    let step : digits_of 10 (n * 10 + d) ≡ digits_of 10 n ++ (d ∷ []) = digits_of_step _ (n * 10 + d) (omega arith) (omega arith) ∙ rw (div-mul-add n 10 d low.0, mod-mul-add n 10 d low.0) refl in
    digits_after (n * 10 + d) ds (omega arith) low.1 ∙ ap (λ front. front ++ ds) step ∙ append_assoc (digits_of 10 n) (d ∷ []) ds

small_quotient : (d : ℕ) → d < 10 → d / 10 ≡ 0
small_quotient d low = omega arith

small_rest : (d : ℕ) → d < 10 → d % 10 ≡ d
small_rest d low = omega arith

-- digits that don't begin with zero are those of the number that they write
digits_back : (d : ℕ) (ds : List ℕ) → 0 < d → AllBelowBase 10 (d ∷ ds) → digits_of 10 (number_from_digits 10 (d ∷ ds)) ≡ d ∷ ds
digits_back d ds some low =
    let e : 0 * 10 + d ≡ d = omega arith in
    let one : digits_of 10 d ≡ d ∷ [] = digits_of_step _ d (omega arith) some ∙ rw (small_quotient d low.0, small_rest d low.0) refl in
    rw e (digits_after d _ some low.1 ∙ ap (λ front. front ++ ds) one)

in_range : (c : ℕ) → is_ascii_digit c ≡ true → IsInRange 48 57 c
in_range c e = search (rules, tests)

value_is : (c : ℕ) → is_ascii_digit c ≡ true → digit_value c + 48 ≡ c
value_is c e = digit_value_digit c (in_range c e)

value_below : (c : ℕ) → is_ascii_digit c ≡ true → digit_value c < 10
value_below c e = let r = in_range c e in let v = value_is c e in omega arith

values_below : (text : List ℕ) → AreDigits text → AllBelowBase 10 (map digit_value text)
values_below [] are = tt
values_below (c ∷ cs) are =
    let p = and_parts _ _ are in
    (value_below c p.0, values_below cs p.1)

-- the characters of the values of digits are the digits
characters : (text : List ℕ) → AreDigits text → map (λ digit. 48 + digit) (map digit_value text) ≡ text
characters [] are = refl
characters (c ∷ cs) are =
    let p = and_parts _ _ are in
    let e : 48 + digit_value c ≡ c = omega (arith, value_is c p.0) in
    rw e (ap (λ text. c ∷ text) (characters _ p.1))

pub decimal_text-pos : (n : ℕ) → 0 < n → decimal_text n ≡ map (λ digit. 48 + digit) (digits_of 10 n)
unfolding decimal_text
decimal_text-pos zero some = absurd (omega arith)
decimal_text-pos (suc n) some = refl

number_positive : (d : ℕ) (ds : List ℕ) → 0 < d → 0 < number_from_digits 10 (d ∷ ds)
number_positive d ds some = omega (arith, number_after_ge 10 (0 * 10 + d) ds (omega arith))

-- digits that don't begin with `0` are the text of their value
text_back : (c : ℕ) (cs : List ℕ) → AreDigits (c ∷ cs) → c ≢ 48 → (0 < digits_value 10 (c ∷ cs)) × (decimal_text (digits_value 10 (c ∷ cs)) ≡ c ∷ cs)
text_back c cs are other =
    let first = (and_parts _ _ are).0 in
    let low = values_below (c ∷ cs) are in
    let some : 0 < digit_value c = omega (arith, value_is c first, other, in_range c first) in
    let value : digits_value 10 (c ∷ cs) ≡ number_from_digits 10 (map digit_value (c ∷ cs)) = digits_value_is 10 (c ∷ cs) in
    let positive : 0 < number_from_digits 10 (map digit_value (c ∷ cs)) = number_positive _ (map digit_value cs) some in (
      rw value positive,
      ap decimal_text value ∙ decimal_text-pos _ positive
          ∙ ap (map (λ digit. 48 + digit)) (digits_back _ _ some low) ∙ characters _ are,
    )

alone : (c : ℕ) (cs : List ℕ) → c ≡ 48 → (not (eqb c 48) || eqb (length (c ∷ cs)) 1) ≡ true → cs ≡ []
alone c cs e test =
    let one : eqb (length (c ∷ cs)) 1 ≡ true = rw e at test in
    nil_from_length _ (omega (arith, eqb-true _ _ one))

-- what is_decimal asks
decimal_parts : (c : ℕ) (cs : List ℕ) → is_decimal (c ∷ cs) ≡ true → AreDigits (c ∷ cs) × ((c ≢ 48) ⊎ ((c ≡ 48) × (cs ≡ [])))
unfolding is_decimal
decimal_parts c _ e =
    let p = and_parts _ _ e in
    let front = and_parts _ _ p.0 in (
      p.1,
      elim (cases_eq c _) [
        | inl zero_first ↦ inr (zero_first, alone c _ zero_first front.1)
        | inr other ↦ inl other
      ],
    )

zero_back : (c : ℕ) (cs : List ℕ) → c ≡ 48 → cs ≡ [] → decimal_text (digits_value 10 (c ∷ cs)) ≡ c ∷ cs
unfolding decimal_text
zero_back c _ e f = rw (e, f) refl

pub nothing_read : is_decimal [] ≡ true → ⊥
unfolding is_decimal
nothing_read e = cc

-- what reading takes for a number is the text of that number
pub decimal_found : (text : List ℕ) → is_decimal text ≡ true → decimal_text (digits_value 10 text) ≡ text
unfolding is_decimal
decimal_found [] e = absurd cc
decimal_found (c ∷ cs) e =
    let p = decimal_parts c cs e in
    elim p.1 [
      | inl other ↦ (text_back c _ p.0 other).1
      | inr zero_alone ↦ zero_back c _ zero_alone.0 zero_alone.1
    ]

shown : (d : ℕ) → d < 10 → is_ascii_digit (48 + d) ≡ true
shown d low = search (rules, tests)

shown_digits : (ds : List ℕ) → AllBelowBase 10 ds → AreDigits (map (λ digit. 48 + digit) ds)
shown_digits [] low = refl
shown_digits (d ∷ ds) low = rw (shown d low.0) (shown_digits ds low.1)

shown_values : (ds : List ℕ) → AllBelowBase 10 ds → map digit_value (map (λ digit. 48 + digit) ds) ≡ ds
shown_values [] low = refl
shown_values (d ∷ ds) low =
    let e : digit_value (48 + d) ≡ d = omega (arith, value_is (48 + d) (shown d low.0)) in
    rw e (ap (λ others. d ∷ others) (shown_values _ low.1))

shown_decimal : (ds : List ℕ) → AllBelowBase 10 ds → 0 < get_or ds 0 0 → is_decimal (map (λ digit. 48 + digit) ds) ≡ true
unfolding is_decimal
shown_decimal [] low some = absurd (omega arith)
shown_decimal (d ∷ ds) low some =
    let test : eqb (48 + d) 48 ≡ false = ne_eqb _ _ (omega arith) in
    let long : ltb 0 (suc (length (map (λ digit. 48 + digit) ds))) ≡ true = lt-ltb _ _ (omega arith) in
    rw (long, test) (shown_digits (d ∷ ds) low)

-- the text of a number is what reading takes for it
pub decimal_again : (n : ℕ) → (is_decimal (decimal_text n) ≡ true) × (digits_value 10 (decimal_text n) ≡ n)
unfolding decimal_text is_decimal
decimal_again zero = (refl, refl)
decimal_again (suc n) =
    let ds = digits_of 10 (suc n) in
    let low = all_below_base_digits_of 10 (suc n) (omega arith) in
    let first = first_digits_of _ (suc n) (omega arith) (omega arith) in (
      shown_decimal _ low first,
      digits_value_is 10 (map (λ digit. 48 + digit) ds) ∙ ap (number_from_digits 10) (shown_values _ low) ∙ number_digits_of _ _ (omega arith),
    )

-- the first character of a decimal text is a digit
pub decimal_first : (text : List ℕ) → is_decimal text ≡ true → IsInRange 48 57 (get_or text 0 0)
decimal_first [] e = absurd (nothing_read e)
decimal_first (c ∷ cs) e = in_range c (and_parts _ _ (decimal_parts c _ e).0).0

leads : (ds : List ℕ) → 0 < get_or ds 0 0 → 48 < get_or (map (λ digit. 48 + digit) ds) 0 0
leads [] some = absurd (omega arith)
leads (d ∷ ds) some = omega arith

-- no text of a number above zero begins with `0`
pub decimal_leads : (n : ℕ) → 0 < n → 48 < get_or (decimal_text n) 0 0
decimal_leads n some = rw (decimal_text-pos) (leads _ (first_digits_of _ n (omega arith) some))

-- a decimal text is digits, and at least one
pub decimal_digits : (text : List ℕ) → is_decimal text ≡ true → (0 < length text) × AreDigits text
decimal_digits [] e = absurd (nothing_read e)
decimal_digits (c ∷ cs) e = (omega arith, (decimal_parts c _ e).0)
