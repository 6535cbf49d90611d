-- What ties the text of a span to its milliseconds.
use Rattle.std.proofs.Common.{◌≡◌, ℕ, ◌+◌, ◌*◌, ◌≤◌, Bool, true, false, not, ◌&&◌, cond, ltb, leb, List, [], ◌∷◌, ◌++◌, length, take, drop, Option, None, Some, ◌⊎◌, inl, inr, ⊎_elim, refl, sym, ap, subst, ◌∙◌, arith, codes}
use Rattle.std.specs.Char.{is_ascii_digit}
use Rattle.std.specs.List.{before_first, position, position_or_len, list_all}
use Rattle.std.specs.Option.{unwrap_or}
use Rattle.std.specs.Str.{bytes_eq}
use Rattle.std.specs.Str.Parse.{digits_value}
use Rattle.std.proofs.lemmas.Bool.Decides.{nat_tests}
use Rattle.std.proofs.lemmas.List.{take-append-drop, take_at, drop_at}
use Rattle.std.proofs.lemmas.List.Sums.{prefix_len-le-length}
use Rattle.base.specs.ShortNumber.{is_number, number_of}
use Rattle.moment_core.specs.SpanText.{IsUnit, IsSpanText, unit_of, is_no_digit, span_within, span_of}
use Rattle.moment_core.specs.Limits.{longest_span}
use Rattle.std.proofs.lemmas.Bool.{and_parts}
use Rattle.std.proofs.lemmas.Option.{cond_some, none-some}
use Rattle.std.proofs.Math.Numerals.{one-add}
use Rattle.base.proofs.Bools.{same_texts}

unwrap-test : (b : Bool) (k len : ℕ) → ltb k len ≡ b → k ≤ len → unwrap_or (cond b (Some k) None) len ≡ k
unwrap-test true k len test low = refl
unwrap-test false k len test low = grind (arith, nat_tests)

unwrap-place : (k len : ℕ) → k ≤ len → unwrap_or (cond (ltb k len) (Some k) None) len ≡ k
unwrap-place k len low = unwrap-test (ltb k len) k len refl low

-- the first place that passes, or the length
pub place_or_length : (p : ℕ → Bool) (xs : List ℕ) → (unwrap_or (position p xs) (length xs) ≡ position_or_len p xs) × (position_or_len p xs ≤ length xs)
place_or_length p xs =
    let low = prefix_len-le-length (λ x. not (p x)) xs in
    (unwrap-place (position_or_len p xs) (length xs) low, low)

within_found : (number each : Option ℕ) (ms : ℕ) → span_within number each ≡ Some ms
    → (n : ℕ) × (e : ℕ) × (number ≡ Some n) × (each ≡ Some e) × (ms ≡ n * e) × (ms ≤ longest_span)
within_found None each ms is = absurd (none-some ms is)
within_found (Some n) None ms is = absurd (none-some ms is)
within_found (Some n) (Some e) ms is =
    let passed = cond_some (leb (n * e) longest_span) (n * e) ms is in
    let low : n * e ≤ longest_span = let test : leb (n * e) longest_span ≡ true = passed.0 in grind (arith, nat_tests) in
    (n, e, refl, refl, sym passed.1, subst (λ k. k ≤ longest_span) passed.1 low)

-- a choice that gave a number
choice : (b : Bool) (x : ℕ) (others : Option ℕ) (n : ℕ) → cond b (Some x) others ≡ Some n → ((b ≡ true) × (n ≡ x)) ⊎ (others ≡ Some n)
choice true x others n is = inl (refl, cc)
choice false x others n is = inr is

unit_of-found : (unit : List ℕ) (each : ℕ) → unit_of unit ≡ Some each → IsUnit unit each
unfolding unit_of
unit_of-found unit each is =
    ⊎_elim (λ one. inl (same_texts unit (codes "ms") one.0, one.1))
    (λ more. ⊎_elim (λ one. inr (inl (same_texts unit (codes "s") one.0, one.1)))
    (λ further. ⊎_elim (λ one. inr (inr (inl (same_texts unit (codes "m") one.0, one.1))))
    (λ left. let last = cond_some (bytes_eq unit (codes "h")) 3_600_000 each left in inr (inr (inr (same_texts unit (codes "h") last.0, sym last.1))))
    (choice (bytes_eq unit (codes "m")) 60_000 _ each further))
    (choice (bytes_eq unit (codes "s")) 1_000 _ each more))
    (choice (bytes_eq unit (codes "ms")) 1 _ each is)

pub span_of-found : (text : List ℕ) (ms : ℕ) → span_of text ≡ Some ms → IsSpanText text ms
unfolding span_of
span_of-found text ms is =
    let known = within_found (number_of 12 (before_first is_no_digit text)) (unit_of (drop (position_or_len is_no_digit text) text)) ms is in
    let number = cond_some (is_number 12 (before_first is_no_digit text)) (digits_value 10 (before_first is_no_digit text)) known.0 known.2 in
    record {
      digits = before_first is_no_digit text;
      unit = drop (position_or_len is_no_digit text) text;
      each = known.1;
      text_is = sym (take-append-drop (position_or_len is_no_digit text) text);
      is_number = number.0;
      is_unit = unit_of-found (drop (position_or_len is_no_digit text) text) known.1 known.3;
      ms_is = known.4 ∙ ap (λ n. n * known.1) (sym number.1);
      at_most = known.5;
    }

-- a unit is read, and begins with no digit
abbrev IsRead : List ℕ → ℕ → Type 0
IsRead unit each = (unit_of unit ≡ Some each) × (position_or_len is_no_digit unit ≡ 0)

read_at : (unit text : List ℕ) (each n : ℕ) → IsRead text n → (unit ≡ text) × (each ≡ n) → IsRead unit each
read_at unit text each n known same = (ap unit_of same.0 ∙ known.0 ∙ ap Some (sym same.1), ap (position_or_len is_no_digit) same.0 ∙ known.1)

unit_of-only : (unit : List ℕ) (each : ℕ) → IsUnit unit each → IsRead unit each
unfolding unit_of
unit_of-only unit each is =
    ⊎_elim (read_at unit (codes "ms") each 1 (refl, refl))
    (⊎_elim (read_at unit (codes "s") each 1_000 (refl, refl))
    (⊎_elim (read_at unit (codes "m") each 60_000 (refl, refl)) (read_at unit (codes "h") each 3_600_000 (refl, refl)))) is

-- digits end where the unit begins
place_after : (digits unit : List ℕ) → list_all is_ascii_digit digits ≡ true → position_or_len is_no_digit unit ≡ 0 → position_or_len is_no_digit (digits ++ unit) ≡ length digits
place_after [] unit all begins = begins
place_after (d ∷ digits) unit all begins =
    let parts = and_parts (is_ascii_digit d) (list_all is_ascii_digit digits) all in
    let others = place_after digits unit parts.1 begins in
    ap (λ b. cond (not (not b)) (1 + position_or_len is_no_digit (digits ++ unit)) 0) parts.0
    ∙ ap (λ n. 1 + n) others ∙ one-add (length digits)

passes : (n : ℕ) → n ≤ longest_span → leb n longest_span ≡ true
passes n low = grind (arith, nat_tests)

pub span_of-only : (text : List ℕ) (ms : ℕ) → IsSpanText text ms → span_of text ≡ Some ms
unfolding span_of
span_of-only text ms is =
    let unit = unit_of-only is.unit is.each is.is_unit in
    let all : list_all is_ascii_digit is.digits ≡ true =
    (and_parts (leb 1 (length is.digits) && leb (length is.digits) 12) (list_all is_ascii_digit is.digits) is.is_number).1 in
    let place : position_or_len is_no_digit text ≡ length is.digits =
    ap (position_or_len is_no_digit) is.text_is ∙ place_after is.digits is.unit all unit.1 in
    let before : before_first is_no_digit text ≡ is.digits =
    ap (λ k. take k text) place ∙ ap (take (length is.digits)) is.text_is ∙ take_at is.digits is.unit (length is.digits) refl in
    let after : drop (position_or_len is_no_digit text) text ≡ is.unit =
    ap (λ k. drop k text) place ∙ ap (drop (length is.digits)) is.text_is ∙ drop_at is.digits is.unit (length is.digits) refl in
    let number : number_of 12 (before_first is_no_digit text) ≡ Some (digits_value 10 is.digits) =
    ap (number_of 12) before ∙ ap (λ b. cond b (Some (digits_value 10 is.digits)) None) is.is_number in
    let each : unit_of (drop (position_or_len is_no_digit text) text) ≡ Some is.each = ap unit_of after ∙ unit.0 in
    let low : digits_value 10 is.digits * is.each ≤ longest_span = subst (λ n. n ≤ longest_span) is.ms_is is.at_most in
    let test : leb (digits_value 10 is.digits * is.each) longest_span ≡ true = passes (digits_value 10 is.digits * is.each) low in
    ap (λ n. span_within n (unit_of (drop (position_or_len is_no_digit text) text))) number ∙ ap (span_within (Some (digits_value 10 is.digits))) each
    ∙ ap (λ b. cond b (Some (digits_value 10 is.digits * is.each)) None) test ∙ ap Some (sym is.ms_is)

-- what is read is the span
pub span_of-same : (text : List ℕ) (read ms : ℕ) → Some read ≡ span_of text → IsSpanText text ms → read ≡ ms
span_of-same text read ms is of_ms = let e : Some read ≡ Some ms = is ∙ span_of-only text ms of_ms in cc

pub span_of-none : (text : List ℕ) (ms : ℕ) → None ≡ span_of text → IsSpanText text ms → ⊥
span_of-none text ms is of_ms = none-some ms (is ∙ span_of-only text ms of_ms)
