-- The number of a text, character by character.
use Rattle.std.proofs.Common.{◌≡◌, ℕ, ◌+◌, ◌*◌, ◌^◌, ◌<◌, ◌≤◌, Option, None, Some, leb, true, false, List, [], map, length, take, drop, get_or, refl, sym, ap, ◌∙◌, arith}
use Rattle.std.proofs.lemmas.Bool.Decides.{nat_tests}
use Rattle.std.proofs.lemmas.Int.Digits.{number_more, number_after_append, number_after_ge}
use Rattle.std.proofs.lemmas.List.{length-map, take-map, get_or-map, take-append-drop}
use Rattle.std.specs.Int.Digits.{number_from_digits, number_from_digits_after}
use Rattle.std.proofs.lemmas.Grind.{common_steps}
use Rattle.std.proofs.lemmas.List.Sums.{fails_before_first}
use Rattle.std.specs.List.{position_or_len}
use Rattle.std.specs.Option.{is_none, unwrap_or}
use Rattle.std.specs.Prelude.{IsSome}
use Rattle.ulid_core.proofs.UlidLaws.{value, found-characters}
use Rattle.ulid_core.specs.UlidText.{digit_of, number_of, bad_place}

pub number_of-nil : 0 ≡ number_of []
unfolding number_of
number_of-nil = refl

number_of-take : (text : List ℕ) (i : ℕ) → number_of (take i text) ≡ number_from_digits 32 (take i (map value text))
unfolding number_of
number_of-take text i = ap (number_from_digits 32) (sym (take-map value i text))

number_of-more : (text : List ℕ) (i : ℕ) → i < length text → number_of (take (i + 1) text) ≡ number_of (take i text) * 32 + value (get_or text i 0)
number_of-more text i low =
    let shorter : i < length (map value text) = omega (arith, length-map text value) in
    rw (number_of-take text (i + 1), number_of-take text i, number_more 32 (map value text) i shorter, get_or-map value text i 0 0 low) refl

number_of-front : (text : List ℕ) (i : ℕ) → number_of (take i text) ≤ number_of text
unfolding number_of
number_of-front text i =
    let front : number_from_digits 32 (take i (map value text)) ≤ number_from_digits_after 32 (number_from_digits 32 (take i (map value text))) (drop i (map value text))
    = number_after_ge 32 (number_from_digits 32 (take i (map value text))) (drop i (map value text)) (omega arith) in
    let whole : number_from_digits_after 32 (number_from_digits 32 (take i (map value text))) (drop i (map value text)) ≡ number_of text
    = sym (number_after_append 32 0 (take i (map value text)) (drop i (map value text))) ∙ ap (number_from_digits 32) (take-append-drop i (map value text)) in
    rw (number_of-take text i) (omega arith)

number_of-fits : (text : List ℕ) → length text ≡ 26 → bad_place text ≡ None → get_or text 0 0 ≤ 55 → number_of text < 2 ^ 128
number_of-fits text count none first =
    let low : leb (get_or text 0 0) 55 ≡ true = grind (arith, nat_tests) in
    (found-characters text (number_of text) count none low refl).fits

some_by : (o : Option ℕ) → is_none o ≡ false → IsSome o
some_by None none = absurd (cc)
some_by (Some digit) none = refl

-- where no place is bad, each byte stands for a digit
pub each_stands : (text : List ℕ) (i : ℕ) → bad_place text ≡ None → i < length text → IsSome (digit_of (get_or text i 0))
unfolding bad_place
each_stands text i none low =
    let late : length text ≤ position_or_len (λ c. is_none (digit_of c)) text = grind (arith, common_steps) in
    some_by _ (fails_before_first (λ c. is_none (digit_of c)) text i 0 (omega arith))

-- the digit that a byte stands for is its value
pub value_is : (c digit : ℕ) → digit_of c ≡ Some digit → digit ≡ unwrap_or (digit_of c) 0
value_is c digit is = sym (ap (λ o. unwrap_or o 0) is)

pub number_of-step : (text : List ℕ) (i number digit : ℕ) → length text ≡ 26 → bad_place text ≡ None → get_or text 0 0 ≤ 55 → i < length text
    → number ≡ number_of (take i text) → digit ≡ unwrap_or (digit_of (get_or text i 0)) 0
    → (number * 32 + digit ≡ number_of (take (i + 1) text)) × (number * 32 + digit < 2 ^ 128)
number_of-step text i number digit count none first low so_far is =
    let next : number * 32 + digit ≡ number_of (take (i + 1) text) = rw (number_of-more text i low, so_far, is) refl in
    let front = number_of-front text (i + 1) in
    let fits = number_of-fits text count none first in
    (next, omega arith)
