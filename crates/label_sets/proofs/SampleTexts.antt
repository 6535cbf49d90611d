-- What is read as a sample is its text, and each refusal has its cause.
use Rattle.std.proofs.Common.{◌≡◌, ◌≢◌, ℕ, ℤ, pos, negsuc, suc, ◌+◌, ◌^◌, ◌<◌, true, not, ◌&&◌, cond, List, [], ◌∷◌, ◌++◌, length, take, drop, get_or, Option, Some, None, Result, Ok, Err, IfOk, refl, sym, ap, ◌∙◌, arith, append_assoc, inl, inr}
use Rattle.std.proofs.lemmas.Bool.{and_parts}
use Rattle.std.proofs.lemmas.Bool.{cases_lt}
use Rattle.std.proofs.lemmas.Bool.Decides.{nat_tests}
use Rattle.std.proofs.lemmas.List.{length-append, take_at, drop_at}
use Rattle.std.proofs.lemmas.List.Sums.{split_at_first, passes_at_first}
use Rattle.std.proofs.Math.ListN.{drop_of_length-le}
use Rattle.std.specs.Int.{w64}
use Rattle.std.specs.Int.RustNames.{FitsSigned}
use Rattle.std.specs.List.{list_all, before_first, after_first, position_or_len}
use Rattle.std.specs.Char.{is_ascii_digit}
use Rattle.base.specs.Decimal.{decimal_text, signed_text, signed_of}
use Rattle.base.specs.declared.number.NumberRefusal.{NumberRefusal}
use Rattle.base.specs.declared.number.NumberRefusal.TheVariants.{NotANumber, TooLarge}
use Rattle.base.proofs.Decimals.{decimal_again, decimal_digits}
use Rattle.base.proofs.ParsedSigned.{signed_again, signed_large, signed_found, signed_found_large, signed_found_none}
use Rattle.label_sets.specs.declared.sample.Sample.{Sample}
use Rattle.label_sets.specs.declared.sample.SampleRefusal.{SampleRefusal}
use Rattle.label_sets.specs.declared.sample.SampleRefusal.TheVariants.{NotASample, OutOfRange}
use Rattle.label_sets.specs.SampleText.{pattern_of, pattern_text, timed_text, sample_text, is_colon, sample_with, sample_of}
use Rattle.label_sets.proofs.HexTexts.{pattern_found, pattern_again}

-- ---- the colon

abbrev HasNoColon : List ℕ → Type 0
HasNoColon text = list_all (λ byte. not (is_colon byte)) text ≡ true

through : (front rest : List ℕ) → HasNoColon front → position_or_len is_colon (front ++ 58 ∷ rest) ≡ length front
through [] _ none = refl
through (byte ∷ front) rest none =
    let p = and_parts (not (is_colon byte)) (list_all (λ b. not (is_colon b)) front) none in
    ap (λ b. cond b (1 + position_or_len is_colon (front ++ 58 ∷ rest)) 0) p.0 ∙ ap (λ n. 1 + n) (through front rest p.1) ∙ omega arith

cut_at_colon : (front rest : List ℕ) → HasNoColon front → (before_first is_colon (front ++ 58 ∷ rest) ≡ front) × (after_first is_colon (front ++ 58 ∷ rest) ≡ rest)
cut_at_colon front rest none =
    let n = through _ _ none in (
      ap (λ k. take k (front ++ 58 ∷ rest)) n ∙ take_at _ _ _ refl,
      ap (λ k. drop (k + 1) (front ++ 58 ∷ rest)) n ∙ ap (drop (length front + 1)) (sym (append_assoc front (58 ∷ []) rest))
          ∙ drop_at (front ++ 58 ∷ []) rest (length front + 1) (omega (arith, length-append front (58 ∷ []))),
    )

digits_only : (digits : List ℕ) → list_all is_ascii_digit digits ≡ true → HasNoColon digits
digits_only [] all = refl
digits_only (d ∷ ds) all =
    let p = and_parts (is_ascii_digit d) (list_all is_ascii_digit ds) all in
    let here : not (is_colon d) ≡ true = let is : is_ascii_digit d ≡ true = p.0 in grind (arith, nat_tests) in
    ap (λ b. b && list_all (λ c. not (is_colon c)) ds) here ∙ digits_only ds p.1

time_only : (time : ℤ) → HasNoColon (signed_text time)
unfolding signed_text
time_only (pos n) = digits_only (decimal_text n) (decimal_digits _ (decimal_again n).0).1
time_only (negsuc n) = digits_only (decimal_text (suc n)) (decimal_digits _ (decimal_again (suc n)).0).1

-- a text with a colon in it
with_colon : (text : List ℕ) → after_first is_colon text ≢ [] → text ≡ before_first is_colon text ++ 58 ∷ after_first is_colon text
with_colon text some =
    elim (cases_lt (position_or_len is_colon text) (length text)) [
      | inl within ↦
          let here : get_or text (position_or_len is_colon text) 0 ≡ 58 = let test = passes_at_first is_colon text 0 within in grind (arith, nat_tests) in
          split_at_first is_colon _ 0 within ∙ ap (λ c. before_first is_colon text ++ (c ∷ after_first is_colon text)) here
      | inr beyond ↦ absurd (some (drop_of_length-le text (omega arith)))
    ]

-- ---- texts

nothing_before : pattern_of [] ≡ None
unfolding pattern_of
nothing_before = refl

-- a text of a time and a pattern is read in its parts
pub timed_is : (text : List ℕ) (time : ℤ) (pattern : ℕ) → pattern < 2 ^ 64 → text ≡ timed_text time pattern → sample_of text ≡ sample_with (Some pattern) (signed_of (signed_text time))
unfolding timed_text sample_of
timed_is text time _ fits e =
    let c = cut_at_colon _ _ (time_only _) in
    ap sample_of e ∙ (λ i. sample_with (pattern_of (c.1 i)) (signed_of (c.0 i))) ∙ ap (λ p. sample_with p (signed_of (signed_text time))) (pattern_again _ fits)

-- a text in front of whose pattern something stands
pub parts_of : (text : List ℕ) (pattern : ℕ) → pattern_of (after_first is_colon text) ≡ Some pattern
    → (text ≡ before_first is_colon text ++ 58 ∷ pattern_text pattern) × (pattern < 2 ^ 64)
parts_of text pattern e =
    let f = pattern_found _ _ e in
    let some : after_first is_colon text ≢ [] = λ none. let clash = sym nothing_before ∙ ap pattern_of (sym none) ∙ e in absurd cc in
    (with_colon _ some ∙ ap (λ rest. before_first is_colon text ++ 58 ∷ rest) f.0, f.1)

-- ---- what a sample is read from

with_ok : (p : Option ℕ) (t : Result ℤ NumberRefusal) (sample : Sample) → sample_with p t ≡ Ok sample → (p ≡ Some sample.pattern) × (t ≡ Ok sample.time)
unfolding sample_with
with_ok None t _ e = absurd cc
with_ok (Some pattern) (Ok time) sample e =
    let same : ◌≡◌ {A = Sample} (record { time = time; pattern = pattern }) sample = cc in
    (ap (λ s. Some s.pattern) same, ap (λ s. Ok s.time) same)
with_ok (Some pattern) (Err NotANumber) _ e = absurd cc
with_ok (Some pattern) (Err TooLarge) _ e = absurd cc

with_large : (p : Option ℕ) (t : Result ℤ NumberRefusal) → sample_with p t ≡ Err OutOfRange → (pattern : ℕ) × (p ≡ Some pattern) × (t ≡ Err TooLarge)
unfolding sample_with
with_large None t e = absurd cc
with_large (Some pattern) (Ok time) e = absurd cc
with_large (Some pattern) (Err NotANumber) e = absurd cc
with_large (Some pattern) (Err TooLarge) e = (pattern, refl, refl)

pub sample_of-found : (text : List ℕ) (sample : Sample) → sample_of text ≡ Ok sample → text ≡ sample_text sample
unfolding sample_of sample_text timed_text
sample_of-found _ sample e =
    let w = with_ok _ _ _ e in
    (parts_of _ _ w.0).0 ∙ ap (λ front. front ++ 58 ∷ pattern_text sample.pattern) (signed_found _ _ w.1).0

-- what is read fits
pub sample_of-fits : (text : List ℕ) (sample : Sample) → sample_of text ≡ Ok sample → FitsSigned w64 sample.time × (sample.pattern < 2 ^ 64)
unfolding sample_of
sample_of-fits text _ e =
    let w = with_ok _ _ _ e in
    ((signed_found _ _ w.1).1, (parts_of text _ w.0).1)

pub sample_of-only : (text : List ℕ) (sample : Sample) → FitsSigned w64 sample.time → sample.pattern < 2 ^ 64 → text ≡ sample_text sample → sample_of text ≡ Ok sample
unfolding sample_text sample_with
sample_of-only _ sample fits small e = timed_is _ _ _ small e ∙ ap (sample_with (Some sample.pattern)) (signed_again _ fits)

pub sample_of-large : (text : List ℕ) → sample_of text ≡ Err OutOfRange → (time : ℤ) × (pattern : ℕ) × (¬ FitsSigned w64 time) × (pattern < 2 ^ 64) × (text ≡ timed_text time pattern)
unfolding sample_of timed_text
sample_of-large _ e =
    let w = with_large _ _ e in
    let t = signed_found_large _ w.2 in
    let p = parts_of _ _ w.1 in
    (t.0, w.0, t.1, p.1, p.0 ∙ ap (λ front. front ++ 58 ∷ pattern_text w.0) t.2)

pub sample_of-large_again : (text : List ℕ) (time : ℤ) (pattern : ℕ) → ¬ FitsSigned w64 time → pattern < 2 ^ 64 → text ≡ timed_text time pattern → sample_of text ≡ Err OutOfRange
unfolding sample_with
sample_of-large_again _ _ pattern large small e = timed_is _ _ _ small e ∙ ap (sample_with (Some pattern)) (signed_large _ large)

time_is_number : (time : ℤ) (pattern : ℕ) (t : Result ℤ NumberRefusal) → signed_of (signed_text time) ≡ t → sample_with (Some pattern) t ≡ Err NotASample → ⊥
unfolding sample_with
time_is_number _ _ (Ok n) e h = cc
time_is_number _ _ (Err NotANumber) e h = signed_found_none _ e _ refl
time_is_number _ _ (Err TooLarge) e h = cc

pub sample_of-none : (text : List ℕ) → sample_of text ≡ Err NotASample → (time : ℤ) (pattern : ℕ) → pattern < 2 ^ 64 → text ≢ timed_text time pattern
sample_of-none _ e _ _ small is =
    time_is_number _ _ _ refl (sym (timed_is _ _ _ small is) ∙ e)

refused : (text front : List ℕ) (p : Option ℕ) (t : Result ℤ NumberRefusal) → signed_of front ≡ t → ((pattern : ℕ) → p ≡ Some pattern → (text ≡ front ++ 58 ∷ pattern_text pattern) × (pattern < 2 ^ 64))
    → ((time : ℤ) (pattern : ℕ) → pattern < 2 ^ 64 → text ≢ timed_text time pattern) → sample_with p t ≡ Err NotASample
unfolding sample_with timed_text
refused _ _ None t e parts none = refl
refused _ _ (Some pattern) (Ok time) e parts none =
    let p = parts pattern refl in
    absurd (none time pattern p.1 (p.0 ∙ ap (λ x. x ++ 58 ∷ pattern_text pattern) (signed_found _ _ e).0))
refused _ _ (Some pattern) (Err NotANumber) e parts none = refl
refused _ _ (Some pattern) (Err TooLarge) e parts none =
    let p = parts pattern refl in
    let t = signed_found_large _ e in
    absurd (none t.0 pattern p.1 (p.0 ∙ ap (λ x. x ++ 58 ∷ pattern_text pattern) t.2))

pub sample_of-none_again : (text : List ℕ) → ((time : ℤ) (pattern : ℕ) → pattern < 2 ^ 64 → text ≢ timed_text time pattern) → sample_of text ≡ Err NotASample
unfolding sample_of
sample_of-none_again text none =
    refused _ _ _ _ refl (λ pattern e. parts_of text pattern e) none

pub found_of : (text : List ℕ) (r : Result Sample SampleRefusal) → r ≡ sample_of text → IfOk r (λ sample. text ≡ sample_text sample)
found_of _ (Ok sample) e = sample_of-found _ _ (sym e)
found_of _ (Err refusal) e = tt

-- where a text has no colon, it is no sample
pub uncut : (text : List ℕ) → position_or_len is_colon text ≡ length text → sample_of text ≡ Err NotASample
unfolding sample_of sample_with
uncut text none =
    let nothing = ap (λ k. drop (k + 1) text) none ∙ drop_of_length-le text (omega arith) in
    ap (λ p. sample_with p (signed_of (before_first is_colon text))) (ap pattern_of nothing ∙ nothing_before)
