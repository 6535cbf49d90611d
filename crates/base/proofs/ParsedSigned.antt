-- The same for numbers on either side of zero.
use Rattle.std.proofs.Common.{◌≡◌, ◌≢◌, ℕ, true, false, List, Result, Ok, Err, refl, sym, ap, ◌∙◌, ◌⊎◌, inl, inr, ℤ}
use Rattle.std.specs.Prelude.{IfOk}
use Rattle.std.specs.Result.{result_or}
use Rattle.std.specs.Int.{w64}
use Rattle.std.specs.Int.RustNames.{FitsSigned}
use Rattle.std.specs.Str.Parse.{signed_digits_value, ParsesSigned}
use Rattle.std.specs.declared.num.ParseIntError.{ParseIntError}
use Rattle.std.proofs.lemmas.Bool.{false_from_ne_true, cases_Bool}
use Rattle.base.specs.declared.number.NumberRefusal.{NumberRefusal}
use Rattle.base.specs.declared.number.NumberRefusal.TheVariants.{NotANumber, TooLarge}
use Rattle.base.specs.Decimal.{signed_text, is_signed_decimal, signed_of}
use Rattle.base.proofs.SignedRanges.{fits_from_test, test_from_fits}
use Rattle.base.proofs.SignedDecimals.{signed_text_of_value, signed_texts, signed_numeral}

fits_or_not : (n : ℤ) → (FitsSigned w64 n) ⊎ (¬ FitsSigned w64 n)
fits_or_not n =
    elim (cases_Bool _) [
      | inl e ↦ inl (fits_from_test n e)
      | inr e ↦ inr (λ fits. let test = test_from_fits n fits in cc)
    ]

pub signed_not : (text : List ℕ) → is_signed_decimal text ≡ false → signed_of text ≡ Err NotANumber
unfolding signed_of
signed_not _ e = rw e refl

pub fits : (text : List ℕ) → is_signed_decimal text ≡ true → FitsSigned w64 (signed_digits_value 10 text) → signed_of text ≡ Ok (signed_digits_value 10 text)
unfolding signed_of
fits _ e small = let test = test_from_fits _ small in rw (e, test) refl

passes : (text : List ℕ) → is_signed_decimal text ≡ true → ¬ FitsSigned w64 (signed_digits_value 10 text) → signed_of text ≡ Err TooLarge
unfolding signed_of
passes _ e large = let test = false_from_ne_true _ (λ t. large (fits_from_test _ t)) in rw (e, test) refl

-- what `parse` gives
pub parsed_signed : (text : List ℕ) (r : Result ℤ ParseIntError) → is_signed_decimal text ≡ true → ParsesSigned w64 10 text r → result_or r (Err TooLarge) ≡ signed_of text
parsed_signed text (Ok x) e h = ap (λ (n : ℤ). Ok n) h.1 ∙ sym (fits text e h.0.1)
parsed_signed text (Err f) e h = sym (passes _ e (λ small. h (signed_numeral _ e, small)))

-- a text of a number is read
pub signed_again : (n : ℤ) → FitsSigned w64 n → signed_of (signed_text n) ≡ Ok n
signed_again n small =
    let a = signed_texts n in
    fits (signed_text n) a.0 (rw a.1 small) ∙ ap (λ (k : ℤ). Ok k) a.1

pub signed_large : (n : ℤ) → ¬ FitsSigned w64 n → signed_of (signed_text n) ≡ Err TooLarge
signed_large n large = let a = signed_texts n in passes _ a.0 (rw a.1 large)

-- Reading a text has three outcomes.
abbrev SignedOutcome : List ℕ → Type 0
SignedOutcome text = ((n : ℤ) × (text ≡ signed_text n) × FitsSigned w64 n) ⊎ (((n : ℤ) × (¬ FitsSigned w64 n) × (text ≡ signed_text n)) ⊎ (((n : ℤ) → text ≢ signed_text n) × (signed_of text ≡ Err NotANumber)))

no_text : (text : List ℕ) → is_signed_decimal text ≡ false → (n : ℤ) → text ≢ signed_text n
no_text _ e n is = let a = signed_texts n in let same = ap is_signed_decimal is ∙ a.0 in cc

signed_outcome : (text : List ℕ) → SignedOutcome text
signed_outcome text =
    elim (cases_Bool (is_signed_decimal text)) [
      | inl e ↦ elim (fits_or_not _) [
        | inl small ↦ inl (signed_digits_value 10 text, sym (signed_text_of_value _ e), small)
        | inr large ↦ inr (inl (signed_digits_value 10 text, large, sym (signed_text_of_value _ e)))
      ]
      | inr e ↦ inr (inr (no_text _ e, signed_not _ e))
    ]

is_ok_then : (text : List ℕ) (n m : ℤ) → text ≡ signed_text m → FitsSigned w64 m → signed_of text ≡ Ok n → (text ≡ signed_text n) × FitsSigned w64 n
is_ok_then _ n m is small e =
    let same = sym (ap signed_of is ∙ signed_again m small) in
    let k : m ≡ n = cc in
    (rw (← k) is, rw (← k) small)

-- what is read is the text of the number
pub signed_found : (text : List ℕ) (n : ℤ) → signed_of text ≡ Ok n → (text ≡ signed_text n) × FitsSigned w64 n
signed_found text n e =
    elim (signed_outcome text) [
      | inl p ↦ is_ok_then _ n _ p.1 p.2 e
      | inr q ↦ elim q [
        | inl p ↦ let no = ap signed_of p.2 ∙ signed_large _ p.1 in absurd cc
        | inr p ↦ let no = p.1 in absurd cc
      ]
    ]

pub signed_found_large : (text : List ℕ) → signed_of text ≡ Err TooLarge → (n : ℤ) × (¬ FitsSigned w64 n) × (text ≡ signed_text n)
signed_found_large text e =
    elim (signed_outcome text) [
      | inl p ↦ let no = ap signed_of p.1 ∙ signed_again _ p.2 in absurd cc
      | inr q ↦ elim q [
        | inl p ↦ p
        | inr p ↦ let no = p.1 in absurd cc
      ]
    ]

pub signed_found_none : (text : List ℕ) → signed_of text ≡ Err NotANumber → (n : ℤ) → text ≢ signed_text n
signed_found_none text e =
    elim (signed_outcome text) [
      | inl p ↦ let no = ap signed_of p.1 ∙ signed_again _ p.2 in absurd cc
      | inr q ↦ elim q [
        | inl p ↦ let no = ap signed_of p.2 ∙ signed_large _ p.1 in absurd cc
        | inr p ↦ p.0
      ]
    ]

pub signed_none : (text : List ℕ) → ((n : ℤ) → text ≢ signed_text n) → signed_of text ≡ Err NotANumber
signed_none text none =
    elim (signed_outcome text) [
      | inl p ↦ absurd (none p.0 p.1)
      | inr q ↦ elim q [
        | inl p ↦ absurd (none p.0 p.2)
        | inr p ↦ p.1
      ]
    ]

pub signed_found_text : (text : List ℕ) (r : Result ℤ NumberRefusal) → r ≡ signed_of text → IfOk r (λ n. text ≡ signed_text n)
signed_found_text _ (Ok n) e = (signed_found _ n (sym e)).0
signed_found_text _ (Err f) e = tt
