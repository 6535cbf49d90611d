-- The same for numbers on either side of zero.
use Rattle.std.proofs.Common.{◌≡◌, ◌≢◌, ℕ, zero, suc, true, List, [], ◌∷◌, get_or, refl, sym, ap, ◌∙◌, arith, ◌⊎◌, inl, inr, ℤ, pos, negsuc, neg_ℤ}
use Rattle.std.specs.Str.Parse.{digits_value, signed_digits_value, IsNumeral, without_leading_sign}
use Rattle.std.proofs.lemmas.Bool.{cases_eq, ne_eqb, eqb-false, and_parts, not-true}
use Rattle.base.specs.Decimal.{decimal_text, signed_text, is_decimal, is_signed_decimal}
use Rattle.base.proofs.Decimals.{nothing_read, decimal_found, decimal_again, decimal_first, decimal_leads, decimal_digits, digits_are_numerals}

-- the value of a text without a sign
plain_value : (text : List ℕ) → get_or text 0 0 ≢ 45 → get_or text 0 0 ≢ 43 → signed_digits_value 10 text ≡ pos (digits_value 10 text)
plain_value _ minus plus = rw (ne_eqb _ _ minus, ne_eqb _ _ plus) refl

plain_first : (text : List ℕ) → is_decimal text ≡ true → (get_or text 0 0 ≢ 45) × (get_or text 0 0 ≢ 43)
plain_first _ e = let r = decimal_first _ e in (omega arith, omega arith)

below_zero : (v : ℕ) (cs : List ℕ) → v ≢ 0 → decimal_text v ≡ cs → signed_text (neg_ℤ (pos v)) ≡ 45 ∷ cs
unfolding signed_text
below_zero zero _ some e = absurd (some refl)
below_zero (suc v) _ some e = ap (λ digits. 45 ∷ digits) e

zero_first : get_or (decimal_text 0) 0 0 ≡ 48
unfolding decimal_text
zero_first = refl

some_value : (cs : List ℕ) → get_or cs 0 0 ≢ 48 → is_decimal cs ≡ true → digits_value 10 cs ≢ 0
some_value cs first e none = first (ap (λ (text : List ℕ). get_or text 0 0) (sym (decimal_found _ e) ∙ ap decimal_text none) ∙ zero_first)

signed_parts : (c : ℕ) (cs : List ℕ) → is_signed_decimal (c ∷ cs) ≡ true → ((c ≡ 45) × (get_or cs 0 0 ≢ 48) × (is_decimal cs ≡ true)) ⊎ (is_decimal (c ∷ cs) ≡ true)
unfolding is_signed_decimal
signed_parts c _ e =
    elim (cases_eq c _) [
      | inl minus ↦
          let p = and_parts _ _ (rw minus at e) in
          inl (minus, eqb-false _ _ (not-true _ p.0), p.1)
      | inr other ↦ inr (rw (ne_eqb c 45 other) at e)
    ]

minus_back : (c : ℕ) (cs : List ℕ) → c ≡ 45 → get_or cs 0 0 ≢ 48 → is_decimal cs ≡ true → signed_text (signed_digits_value 10 (c ∷ cs)) ≡ c ∷ cs
minus_back c _ minus first e = rw minus (below_zero _ _ (some_value _ first e) (decimal_found _ e))

plain_back : (text : List ℕ) → is_decimal text ≡ true → signed_text (signed_digits_value 10 text) ≡ text
unfolding signed_text
plain_back text e = let p = plain_first _ e in rw (plain_value text p.0 p.1) (decimal_found _ e)

nothing_signed : is_signed_decimal [] ≡ true → ⊥
unfolding is_signed_decimal
nothing_signed e = nothing_read e

-- what reading takes for a number is the text of that number
pub signed_text_of_value : (text : List ℕ) → is_signed_decimal text ≡ true → signed_text (signed_digits_value 10 text) ≡ text
signed_text_of_value [] e = absurd (nothing_signed e)
signed_text_of_value (c ∷ cs) e =
    elim (signed_parts c _ e) [
      | inl p ↦ minus_back c _ p.0 p.1 p.2
      | inr p ↦ plain_back _ p
    ]

pub plain_again : (text : List ℕ) → is_decimal text ≡ true → (is_signed_decimal text ≡ true) × (signed_digits_value 10 text ≡ pos (digits_value 10 text))
unfolding is_signed_decimal
plain_again text e =
    let p = plain_first _ e in
    (rw (ne_eqb _ _ p.0) e, plain_value text p.0 p.1)

minus_again : (cs : List ℕ) → get_or cs 0 0 ≢ 48 → is_decimal cs ≡ true → is_signed_decimal (45 ∷ cs) ≡ true
unfolding is_signed_decimal
minus_again _ first e = rw (ne_eqb _ _ first) e

-- the text of a number is what reading takes for it
pub signed_texts : (n : ℤ) → (is_signed_decimal (signed_text n) ≡ true) × (signed_digits_value 10 (signed_text n) ≡ n)
unfolding signed_text
signed_texts (pos n) =
    let again = decimal_again n in
    let p = plain_again (decimal_text n) again.0 in
    (p.0, p.1 ∙ ap pos again.1)
signed_texts (negsuc n) =
    let again = decimal_again (suc n) in
    let first : get_or (decimal_text (suc n)) 0 0 ≢ 48 = omega (arith, decimal_leads (suc n) (omega arith)) in
    (minus_again _ first again.0, ap (λ k. neg_ℤ (pos k)) again.1)

numeral : (text : List ℕ) → is_decimal text ≡ true → IsNumeral 10 text
numeral text e = let d = decimal_digits text e in (d.0, digits_are_numerals.to text d.1)

behind_minus : (c : ℕ) (cs : List ℕ) → c ≡ 45 → is_decimal cs ≡ true → IsNumeral 10 (without_leading_sign (c ∷ cs))
behind_minus c _ minus e = rw minus (numeral _ e)

plain_numeral : (text : List ℕ) → is_decimal text ≡ true → IsNumeral 10 (without_leading_sign text)
plain_numeral _ e = let p = plain_first _ e in rw (ne_eqb _ _ p.0, ne_eqb _ _ p.1) (numeral _ e)

-- digits stand behind the sign
pub signed_numeral : (text : List ℕ) → is_signed_decimal text ≡ true → IsNumeral 10 (without_leading_sign text)
signed_numeral [] e = absurd (nothing_signed e)
signed_numeral (c ∷ cs) e =
    elim (signed_parts c _ e) [
      | inl p ↦ behind_minus c _ p.0 p.2
      | inr p ↦ plain_numeral _ p
    ]
