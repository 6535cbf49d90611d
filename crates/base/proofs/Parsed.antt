-- What `parse` gives at a decimal text is what reading gives, and reading gives each number at its text alone.
use Rattle.std.proofs.Common.{◌≡◌, ◌≢◌, ℕ, ◌^◌, ◌<◌, ◌≤◌, true, false, List, length, Result, Ok, Err, refl, sym, ap, ◌∙◌, arith, ◌⊎◌, inl, inr}
use Rattle.std.specs.Prelude.{IfOk}
use Rattle.std.specs.Result.{OkIff, result_or}
use Rattle.std.specs.Str.Parse.{digits_value, ParsesUnsigned}
use Rattle.std.specs.declared.num.ParseIntError.{ParseIntError}
use Rattle.std.proofs.lemmas.Bool.{cases_lt, lt-ltb, le-ltb, cases_Bool}
use Rattle.std.proofs.lemmas.Str.Parse.{parse_digits}
use Rattle.base.specs.declared.number.NumberRefusal.{NumberRefusal}
use Rattle.base.specs.declared.number.NumberRefusal.TheVariants.{NotANumber, TooLarge}
use Rattle.base.specs.Decimal.{decimal_text, is_decimal, unsigned_of}
use Rattle.base.proofs.Decimals.{digits_are_numerals, decimal_digits, decimal_found, decimal_again}

-- ---- numbers from zero on

pub unsigned_not : (text : List ℕ) → is_decimal text ≡ false → unsigned_of text ≡ Err NotANumber
unfolding unsigned_of
unsigned_not _ e = rw e refl

pub fits : (text : List ℕ) → is_decimal text ≡ true → digits_value 10 text < 2 ^ 64 → unsigned_of text ≡ Ok (digits_value 10 text)
unfolding unsigned_of
fits _ e small = let test = lt-ltb _ _ small in rw (e, test) refl

passes : (text : List ℕ) → is_decimal text ≡ true → 2 ^ 64 ≤ digits_value 10 text → unsigned_of text ≡ Err TooLarge
unfolding unsigned_of
passes _ e large = let test = le-ltb _ _ large in rw (e, test) refl

given_unsigned : (text : List ℕ) (r : Result ℕ ParseIntError) → is_decimal text ≡ true → 0 < length text → OkIff r ((0 < length text) × (digits_value 10 text < 2 ^ 64)) (digits_value 10 text) → result_or r (Err TooLarge) ≡ unsigned_of text
given_unsigned text (Ok x) e some h = ap (λ n. Ok n) h.1 ∙ sym (fits text e h.0.1)
given_unsigned text (Err f) e some h =
    elim (cases_lt (digits_value 10 text) (2 ^ 64)) [
      | inl small ↦ absurd (h (some, small))
      | inr large ↦ sym (passes _ e large)
    ]

-- what `parse` gives
pub parsed_unsigned : (text : List ℕ) (r : Result ℕ ParseIntError) → is_decimal text ≡ true → ParsesUnsigned 64 10 text r → result_or r (Err TooLarge) ≡ unsigned_of text
parsed_unsigned text r e h = let d = decimal_digits text e in given_unsigned _ r e d.0 (parse_digits digits_are_numerals 64 text r h d.1)

-- a text of a number is read
pub unsigned_again : (n : ℕ) → n < 2 ^ 64 → unsigned_of (decimal_text n) ≡ Ok n
unsigned_again n small =
    let a = decimal_again n in
    fits (decimal_text n) a.0 (omega (arith, a.1)) ∙ ap (λ (k : ℕ). Ok k) a.1

pub unsigned_large : (n : ℕ) → 2 ^ 64 ≤ n → unsigned_of (decimal_text n) ≡ Err TooLarge
unsigned_large n large = let a = decimal_again n in passes _ a.0 (omega arith)

-- Reading a text has three outcomes.
abbrev UnsignedOutcome : List ℕ → Type 0
UnsignedOutcome text = ((n : ℕ) × (text ≡ decimal_text n) × (n < 2 ^ 64)) ⊎ (((n : ℕ) × (2 ^ 64 ≤ n) × (text ≡ decimal_text n)) ⊎ (((n : ℕ) → text ≢ decimal_text n) × (unsigned_of text ≡ Err NotANumber)))

no_text : (text : List ℕ) → is_decimal text ≡ false → (n : ℕ) → text ≢ decimal_text n
no_text _ e n is = let a = decimal_again n in let same = ap is_decimal is ∙ a.0 in cc

unsigned_outcome : (text : List ℕ) → UnsignedOutcome text
unsigned_outcome text =
    elim (cases_Bool (is_decimal text)) [
      | inl e ↦ elim (cases_lt (digits_value 10 text) (2 ^ 64)) [
        | inl small ↦ inl (digits_value 10 text, sym (decimal_found _ e), small)
        | inr large ↦ inr (inl (digits_value 10 text, large, sym (decimal_found _ e)))
      ]
      | inr e ↦ inr (inr (no_text _ e, unsigned_not _ e))
    ]

is_ok_then : (text : List ℕ) (n m : ℕ) → text ≡ decimal_text m → m < 2 ^ 64 → unsigned_of text ≡ Ok n → (text ≡ decimal_text n) × (n < 2 ^ 64)
is_ok_then _ n m is small e =
    let same = sym (ap unsigned_of is ∙ unsigned_again m small) in
    let k : m ≡ n = cc in
    (rw (← k) is, rw (← k) small)

-- what is read is the text of the number
pub unsigned_found : (text : List ℕ) (n : ℕ) → unsigned_of text ≡ Ok n → (text ≡ decimal_text n) × (n < 2 ^ 64)
unsigned_found text n e =
    elim (unsigned_outcome text) [
      | inl p ↦ is_ok_then _ n _ p.1 p.2 e
      | inr q ↦ elim q [
        | inl p ↦ let no = ap unsigned_of p.2 ∙ unsigned_large _ p.1 in absurd cc
        | inr p ↦ let no = p.1 in absurd cc
      ]
    ]

pub unsigned_found_large : (text : List ℕ) → unsigned_of text ≡ Err TooLarge → (n : ℕ) × (2 ^ 64 ≤ n) × (text ≡ decimal_text n)
unsigned_found_large text e =
    elim (unsigned_outcome text) [
      | inl p ↦ let no = ap unsigned_of p.1 ∙ unsigned_again _ p.2 in absurd cc
      | inr q ↦ elim q [
        | inl p ↦ p
        | inr p ↦ let no = p.1 in absurd cc
      ]
    ]

pub unsigned_found_none : (text : List ℕ) → unsigned_of text ≡ Err NotANumber → (n : ℕ) → text ≢ decimal_text n
unsigned_found_none text e =
    elim (unsigned_outcome text) [
      | inl p ↦ let no = ap unsigned_of p.1 ∙ unsigned_again _ p.2 in absurd cc
      | inr q ↦ elim q [
        | inl p ↦ let no = ap unsigned_of p.2 ∙ unsigned_large _ p.1 in absurd cc
        | inr p ↦ p.0
      ]
    ]

pub unsigned_none : (text : List ℕ) → ((n : ℕ) → text ≢ decimal_text n) → unsigned_of text ≡ Err NotANumber
unsigned_none text none =
    elim (unsigned_outcome text) [
      | inl p ↦ absurd (none p.0 p.1)
      | inr q ↦ elim q [
        | inl p ↦ absurd (none p.0 p.2)
        | inr p ↦ p.1
      ]
    ]

pub unsigned_found_text : (text : List ℕ) (r : Result ℕ NumberRefusal) → r ≡ unsigned_of text → IfOk r (λ n. text ≡ decimal_text n)
unsigned_found_text _ (Ok n) e = (unsigned_found _ n (sym e)).0
unsigned_found_text _ (Err f) e = tt
