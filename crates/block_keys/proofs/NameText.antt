-- Names of segments, and texts cut at a slash.
use Rattle.std.proofs.Common.{◌≡◌, ℕ, ◌+◌, ◌/◌, ◌%◌, ◌<◌, ◌≤◌, Bool, true, false, not, ◌&&◌, Option, None, Some, Result, Ok, cond, eqb, ltb, List, [], ◌∷◌, ◌++◌, length, drop, get_or, ◌⊎◌, inl, inr, ⊎_elim, refl, sym, ap, subst, ◌∙◌, arith, codes}
use Rattle.std.specs.List.{before_first, after_first, position_or_len, list_all}
use Rattle.std.specs.Char.{is_ascii_digit}
use Rattle.std.specs.Str.{bytes_eq}
use Rattle.std.specs.Str.Parse.{digits_value, ParsesUnsigned, AllDigits}
use Rattle.std.proofs.lemmas.Bool.{and_from, and_parts, cases_lt}
use Rattle.std.proofs.lemmas.Option.{none-some, same_Some}
use Rattle.std.proofs.lemmas.Bool.Decides.{nat_tests}
use Rattle.std.proofs.lemmas.List.Sums.{split_at_first, passes_at_first, prefix_len-le-length}
use Rattle.std.proofs.lemmas.Slice.Eq.{bytes_eq-Decides}
use Rattle.std.proofs.lemmas.Str.Parse.{parse_gives, digits_value_short}
use Rattle.std.proofs.lemmas.Str.Pattern.{IsSplitOnceResult, split_once_first}
use Rattle.std.proofs.Math.ListN.{drop_of_length-le}
use Rattle.std.proofs.Math.Nat.{div-div-eq-div-mul}
use Rattle.base.proofs.Options.{tested_some}
use Rattle.base.specs.FixedDigits.{fixed_digits}
use Rattle.base.proofs.Decimals.{digits_are_numerals}
use Rattle.block_keys.specs.KeyText.{six_digits, number_of, segment_of, is_slash, IsSegmentName}

-- six digits one by one
pub six_digits-is : (n : ℕ) → six_digits n ≡ (48 + n / 100_000 % 10) ∷ (48 + n / 10_000 % 10) ∷ (48 + n / 1_000 % 10) ∷ (48 + n / 100 % 10) ∷ (48 + n / 10 % 10) ∷ (48 + n % 10) ∷ []
unfolding six_digits fixed_digits
six_digits-is n = simp div-div-eq-div-mul

-- nothing stands after the slash of a text without one
pub after_first-none : (text : List ℕ) → position_or_len is_slash text ≡ length text → after_first is_slash text ≡ []
after_first-none text none = ap (λ k. drop (k + 1) text) none ∙ drop_of_length-le text (omega arith)

number_of-nil : number_of [] ≡ None
unfolding number_of
number_of-nil = refl

same_branches : (b : Bool) (x : Option ℕ) → x ≡ None → cond b x None ≡ None
same_branches true x none = none
same_branches false x none = refl

pub segment_of-none : (name : List ℕ) → position_or_len is_slash name ≡ length name → segment_of name ≡ None
unfolding segment_of
segment_of-none name none =
    same_branches (bytes_eq (before_first is_slash name) (codes "chunks")) (number_of (after_first is_slash name))
    (ap number_of (after_first-none name none) ∙ number_of-nil)

-- what is not cut has no slash
pub uncut : (text : List ℕ) → IsSplitOnceResult 47 text None → position_or_len is_slash text ≡ length text
uncut text none = split_once_first 47 text None none (omega arith)

pub segment_of-uncut : (name : List ℕ) → IsSplitOnceResult 47 name None → segment_of name ≡ None
segment_of-uncut name none = segment_of-none name (uncut name none)

-- a text with a slash is cut at it
pub cut_at_slash : (text : List ℕ) → position_or_len is_slash text < length text → text ≡ before_first is_slash text ++ (47 ∷ after_first is_slash text)
cut_at_slash text some =
    let at : get_or text (position_or_len is_slash text) 0 ≡ 47 = let test = passes_at_first is_slash text 0 some in grind (arith, nat_tests) in
    split_at_first is_slash text 0 some ∙ ap (λ c. before_first is_slash text ++ (c ∷ after_first is_slash text)) at

-- six digits are a number below a million, which is parsed
pub six-small : (digits : List ℕ) → list_all is_ascii_digit digits ≡ true → length digits ≡ 6 → digits_value 10 digits < 1_000_000
six-small digits all six = digits_value_short digits_are_numerals digits 6 all (omega arith)

pub parse_six : {E : Type 0} (digits : List ℕ) (r : Result ℕ E) → ParsesUnsigned 32 10 digits r → list_all is_ascii_digit digits ≡ true → length digits ≡ 6 → r ≡ Ok (digits_value 10 digits)
parse_six digits r h all six = let small = six-small digits all six in parse_gives digits_are_numerals 32 digits r h all (omega arith) (omega arith)

-- what six digits are read as
pub number_of-found : (digits : List ℕ) (n : ℕ) → number_of digits ≡ Some n → (length digits ≡ 6) × AllDigits 10 digits × (n ≡ digits_value 10 digits) × (1 ≤ n) × (n < 1_000_000)
unfolding number_of
number_of-found digits n is =
    let passed = tested_some (eqb (length digits) 6 && list_all is_ascii_digit digits && ltb 0 (digits_value 10 digits)) (Some (digits_value 10 digits)) n is in
    let tests = and_parts (eqb (length digits) 6 && list_all is_ascii_digit digits) (ltb 0 (digits_value 10 digits)) passed.0 in
    let shape = and_parts (eqb (length digits) 6) (list_all is_ascii_digit digits) tests.0 in
    let all : list_all is_ascii_digit digits ≡ true = shape.1 in
    let counted : eqb (length digits) 6 ≡ true = shape.0 in
    let above : ltb 0 (digits_value 10 digits) ≡ true = tests.1 in
    let six : length digits ≡ 6 = grind (arith, nat_tests) in
    let some : 1 ≤ digits_value 10 digits = grind (arith, nat_tests) in
    let value : n ≡ digits_value 10 digits = sym (same_Some (digits_value 10 digits) n passed.1) in
    let small = six-small digits all six in
    (six, digits_are_numerals.to digits all, value, omega arith, omega arith)

pub number_of-only : (digits : List ℕ) → length digits ≡ 6 → AllDigits 10 digits → 1 ≤ digits_value 10 digits → number_of digits ≡ Some (digits_value 10 digits)
unfolding number_of
number_of-only digits six all some =
    let counted : eqb (length digits) 6 ≡ true = grind (arith, nat_tests) in
    let above : ltb 0 (digits_value 10 digits) ≡ true = grind (arith, nat_tests) in
    ap (λ b. cond b (Some (digits_value 10 digits)) None) (and_from _ _ (and_from _ _ counted (digits_are_numerals.from digits all)) above)

-- a text has no slash, or one
pub slash_cases : (text : List ℕ) → (position_or_len is_slash text ≡ length text) ⊎ (position_or_len is_slash text < length text)
slash_cases text =
    let low : position_or_len is_slash text ≤ length text = prefix_len-le-length (λ c. not (is_slash c)) text in
    ⊎_elim (λ some. inr some) (λ high. inl (omega arith)) (cases_lt (position_or_len is_slash text) (length text))

-- what a segment's name is read as
pub segment_of-found : (name : List ℕ) (n : ℕ) → segment_of name ≡ Some n → IsSegmentName name n
unfolding segment_of
segment_of-found name n is =
    let named : position_or_len is_slash name < length name → IsSegmentName name n = λ some.
    let passed = tested_some (bytes_eq (before_first is_slash name) (codes "chunks")) (number_of (after_first is_slash name)) n is in
    let folder : before_first is_slash name ≡ codes "chunks" = (bytes_eq-Decides (before_first is_slash name) (codes "chunks")).0 passed.0 in
    let parts = number_of-found (after_first is_slash name) n passed.1 in
    record {
      digits = after_first is_slash name;
      name_is = cut_at_slash name some ∙ ap (λ (b : List ℕ). b ++ (47 ∷ after_first is_slash name)) folder;
      count = parts.0;
      decimal = parts.1;
      number_is = parts.2;
      first = parts.3;
    } in
    ⊎_elim (λ none. absurd (none-some n (sym (segment_of-none name none) ∙ is))) named (slash_cases name)

pub segment_of-only : (name : List ℕ) (n : ℕ) → IsSegmentName name n → segment_of name ≡ Some n
unfolding segment_of
segment_of-only name n is =
    ap segment_of is.name_is ∙ number_of-only is.digits is.count is.decimal (subst (λ m. 1 ≤ m) is.number_is is.first) ∙ ap Some (sym is.number_is)
