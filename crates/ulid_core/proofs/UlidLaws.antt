-- What ties the text of a ULID to its number.
use Rattle.std.proofs.Common.{◌≡◌, ◌≢◌, ◌↔◌, ℕ, suc, ◌+◌, ◌*◌, ◌^◌, ◌<◌, ◌≤◌, Bool, true, false, not, Option, None, Some, Result, Ok, Err, eqb, ltb, leb, cond, List, [], ◌∷◌, map, length, get_or, refl, sym, ap, subst, ◌∙◌, arith}
use Rattle.std.proofs.lemmas.Bool.Decides.{nat_tests}
use Rattle.std.proofs.lemmas.Int.Digits.{number_after_lt}
use Rattle.std.proofs.lemmas.List.{length-map}
use Rattle.std.proofs.lemmas.Map.Lookups.{exact_bytes}
use Rattle.std.specs.Cmp.Lexicographic.{slice_cmp}
use Rattle.std.specs.Int.Digits.{number_from_digits, number_from_digits_after, AllBelowBase}
use Rattle.std.specs.List.{position, position_or_len}
use Rattle.std.specs.Option.{is_none, unwrap_or}
use Rattle.std.specs.Prelude.{IfOk}
use Rattle.std.specs.Ordering.{nat_cmp, ordering_then}
use Rattle.base.proofs.Positional.{length-fixed_digits, below-fixed_digits, number-fixed_digits, cmp-digits, number_after-ge}
use Rattle.ulid_core.proofs.Tables.{digit_of-character, character-digit_of, nat_cmp-character, leb-character}
use Rattle.base.specs.FixedDigits.{fixed_digits}
use Rattle.ulid_core.specs.UlidText.{character, digit_of, IsUlidText, text_of, number_of, bad_place, read_characters, ulid_of}
use Rattle.ulid_core.specs.declared.ulid.UlidRefusal.{UlidRefusal}
use Rattle.ulid_core.specs.declared.ulid.UlidRefusal.TheVariants.{BadLength, BadCharacter, TooLarge}
use Rattle.base.proofs.Bools.{by_bool, nat_cmp-Equal}
use Rattle.base.proofs.Lists.{cons_parts, cons_same}
use Rattle.base.proofs.Options.{some_not_none}
use Rattle.base.proofs.Binds.{cond_ok_second}

pub IsUlidText-text_of : (ulid : ℕ) → ulid < 2 ^ 128 → IsUlidText (text_of ulid) ulid
unfolding text_of
IsUlidText-text_of ulid fits = record {
  digits = fixed_digits 32 26 ulid;
  count = length-fixed_digits 32 26 ulid;
  below_base = below-fixed_digits 32 26 ulid (omega arith);
  characters = refl;
  number = sym (number-fixed_digits 32 26 ulid (omega arith) (omega arith));
  fits = fits;
}

pub length-text_of : (ulid : ℕ) → length (text_of ulid) ≡ 26
unfolding text_of
length-text_of ulid = length-map (fixed_digits 32 26 ulid) character ∙ length-fixed_digits 32 26 ulid

cmp-characters : (ds es : List ℕ) → length ds ≡ length es → AllBelowBase 32 ds → AllBelowBase 32 es
    → slice_cmp nat_cmp (map character ds) (map character es) ≡ slice_cmp nat_cmp ds es
cmp-characters [] [] same all_d all_e = refl
cmp-characters [] (e ∷ es) same all_d all_e = absurd (omega arith)
cmp-characters (d ∷ ds) [] same all_d all_e = absurd (omega arith)
cmp-characters (d ∷ ds) (e ∷ es) same all_d all_e =
    let others : slice_cmp nat_cmp (map character ds) (map character es) ≡ slice_cmp nat_cmp ds es = cmp-characters ds es (omega arith) all_d.1 all_e.1 in
    ap (λ o. ordering_then o (slice_cmp nat_cmp (map character ds) (map character es))) (nat_cmp-character d e all_d.0 all_e.0)
    ∙ ap (λ o. ordering_then (nat_cmp d e) o) others

-- texts are in the order of their ULIDs
pub slice_cmp-ulid_texts : (s t : List ℕ) (u v : ℕ) → IsUlidText s u → IsUlidText t v → slice_cmp nat_cmp s t ≡ nat_cmp u v
slice_cmp-ulid_texts s t u v is_s is_t =
    let same : length is_s.digits ≡ length is_t.digits = is_s.count ∙ sym is_t.count in
    let order : nat_cmp (number_from_digits 32 is_s.digits) (number_from_digits 32 is_t.digits) ≡ slice_cmp nat_cmp is_s.digits is_t.digits =
    cmp-digits 32 0 0 is_s.digits is_t.digits same is_s.below_base is_t.below_base in
    rw (is_s.characters, is_t.characters, is_s.number, is_t.number)
    (cmp-characters is_s.digits is_t.digits same is_s.below_base is_t.below_base ∙ sym order)

pub slice_cmp-text_of : (u v : ℕ) → u < 2 ^ 128 → v < 2 ^ 128 → slice_cmp nat_cmp (text_of u) (text_of v) ≡ nat_cmp u v
slice_cmp-text_of u v low_u low_v = slice_cmp-ulid_texts (text_of u) (text_of v) u v (IsUlidText-text_of u low_u) (IsUlidText-text_of v low_v)

-- a ULID has one text
pub IsUlidText-unique : (text : List ℕ) (ulid : ℕ) → IsUlidText text ulid → text ≡ text_of ulid
IsUlidText-unique text ulid is =
    exact_bytes text (text_of ulid)
    (slice_cmp-ulid_texts text (text_of ulid) ulid ulid is (IsUlidText-text_of ulid is.fits) ∙ nat_cmp-Equal ulid)

-- the value of a character, or 0
abbrev pub value : ℕ → ℕ
value c = unwrap_or (digit_of c) 0

-- the first place where a test passes, for a list with one more element in front
abbrev first_place : Bool → ℕ → ℕ → Option ℕ
first_place b n len = cond (ltb (cond (not b) (1 + n) 0) (suc len)) (Some (cond (not b) (1 + n) 0)) None

None-first : (b : Bool) (n len : ℕ) → first_place b n len ≡ None → b ≡ false
None-first true n len none = let test : ltb 0 (suc len) ≡ true = grind (arith, nat_tests) in absurd (cc)
None-first false n len none = refl

ltb-suc : (n len : ℕ) → ltb (1 + n) (suc len) ≡ ltb n len
ltb-suc n len = grind (arith, nat_tests)

test-None : (s t : Bool) (m n : ℕ) → s ≡ t → cond s (Some m) None ≡ None → cond t (Some n) None ≡ None
test-None true true m n e none = absurd (cc)
test-None true false m n e none = refl
test-None false true m n e none = absurd (cc)
test-None false false m n e none = refl

None-others : (b : Bool) (n len : ℕ) → first_place b n len ≡ None → cond (ltb n len) (Some n) None ≡ None
None-others true n len none = let test : ltb 0 (suc len) ≡ true = grind (arith, nat_tests) in absurd (cc)
None-others false n len none = test-None (ltb (1 + n) (suc len)) (ltb n len) (1 + n) n (ltb-suc n len) none

None-all : (n len : ℕ) → cond (ltb n len) (Some n) None ≡ None → first_place false n len ≡ None
None-all n len others = test-None (ltb n len) (ltb (1 + n) (suc len)) n (1 + n) (sym (ltb-suc n len)) others

first_fails : (p : ℕ → Bool) (c : ℕ) (text : List ℕ) → position p (c ∷ text) ≡ None → p c ≡ false
first_fails p c text none = None-first (p c) (position_or_len p text) (length text) none

others_fail : (p : ℕ → Bool) (c : ℕ) (text : List ℕ) → position p (c ∷ text) ≡ None → position p text ≡ None
others_fail p c text none = None-others (p c) (position_or_len p text) (length text) none

all_fail : (p : ℕ → Bool) (c : ℕ) (text : List ℕ) → p c ≡ false → position p text ≡ None → position p (c ∷ text) ≡ None
all_fail p c text first others = subst (λ b. first_place b (position_or_len p text) (length text) ≡ None) (sym first) (None-all (position_or_len p text) (length text) others)

value-digit : (c : ℕ) (o : Option ℕ) → digit_of c ≡ o → is_none o ≡ false → (value c < 32) × (character (value c) ≡ c)
value-digit c None e some = absurd (cc)
value-digit c (Some d) e some = let known = character-digit_of c d e in rw e known

digits-found : (text : List ℕ) → bad_place text ≡ None → AllBelowBase 32 (map value text) × (text ≡ map character (map value text))
unfolding bad_place
digits-found [] none = (tt, refl)
digits-found (c ∷ text) none =
    let first = value-digit c (digit_of c) refl (first_fails (λ x. is_none (digit_of x)) c text none) in
    let others = digits-found text (others_fail (λ x. is_none (digit_of x)) c text none) in
    ((first.0, others.0), cons_same _ _ _ _ (sym first.1) others.1)

digits-only : (digits : List ℕ) → AllBelowBase 32 digits → (bad_place (map character digits) ≡ None) × (map value (map character digits) ≡ digits)
unfolding bad_place
digits-only [] all = (refl, refl)
digits-only (d ∷ digits) all =
    let known = digit_of-character d all.0 in
    let others = digits-only digits all.1 in
    let good : is_none (digit_of (character d)) ≡ false = ap is_none known in
    let same : value (character d) ≡ d = ap (λ o. unwrap_or o 0) known in
    (all_fail (λ c. is_none (digit_of c)) (character d) (map character digits) good others.0, cons_same _ _ _ _ same others.1)

leb-from : (d : ℕ) → d ≤ 7 → leb d 7 ≡ true
leb-from d small = grind (arith, nat_tests)

number_of-digits : (digits : List ℕ) → AllBelowBase 32 digits → number_of (map character digits) ≡ number_from_digits 32 digits
unfolding number_of
number_of-digits digits all = ap (number_from_digits 32) (digits-only digits all).1

-- a ULID's first character is at most `7`
number-first : (d : ℕ) (digits : List ℕ) → length digits ≡ 25 → AllBelowBase 32 digits → leb d 7 ≡ true → number_from_digits 32 (d ∷ digits) < 2 ^ 128
number-first d digits count all low =
    let small : d ≤ 7 = grind (arith, nat_tests) in
    let above : number_from_digits_after 32 (0 + d) digits < (0 + d + 1) * 32 ^ length digits = number_after_lt 32 (0 + d) digits all in
    let power : 32 ^ length digits ≡ 32 ^ 25 = ap (λ k. 32 ^ k) count in
    let above_at : number_from_digits_after 32 (0 + d) digits < (0 + d + 1) * 32 ^ 25 = subst (λ p. number_from_digits_after 32 (0 + d) digits < (0 + d + 1) * p) power above in
    omega arith

first-number : (d : ℕ) (digits : List ℕ) → length digits ≡ 25 → number_from_digits 32 (d ∷ digits) < 2 ^ 128 → leb d 7 ≡ true
first-number d digits count fits =
    let below : (0 + d) * 32 ^ length digits ≤ number_from_digits_after 32 (0 + d) digits = number_after-ge 32 (0 + d) digits in
    let power : 32 ^ length digits ≡ 32 ^ 25 = ap (λ k. 32 ^ k) count in
    let below_at : (0 + d) * 32 ^ 25 ≤ number_from_digits_after 32 (0 + d) digits = subst (λ p. (0 + d) * p ≤ number_from_digits_after 32 (0 + d) digits) power below in
    let small : d ≤ 7 = omega arith in
    leb-from d small

Ok-characters : (bad : Option ℕ) (text : List ℕ) (ulid : ℕ) → read_characters bad text ≡ Ok ulid
    → (bad ≡ None) × (leb (get_or text 0 0) 55 ≡ true) × (ulid ≡ number_of text)
Ok-characters (Some place) text ulid is = absurd (cc)
Ok-characters None text ulid is =
    let passed = cond_ok_second (leb (get_or text 0 0) 55) (Ok (number_of text)) TooLarge ulid is in
    let same : ulid ≡ number_of text = let e : Ok (number_of text) ≡ Ok ulid = passed.1 in cc in
    (refl, passed.0, same)

pub found-characters : (text : List ℕ) (ulid : ℕ) → length text ≡ 26 → bad_place text ≡ None → leb (get_or text 0 0) 55 ≡ true → ulid ≡ number_of text → IsUlidText text ulid
unfolding number_of
found-characters [] ulid count none low is = absurd (omega arith)
found-characters (c ∷ text) ulid count none low is =
    let known = digits-found (c ∷ text) none in
    let first : leb (character (value c)) 55 ≡ true = subst (λ x. leb x 55 ≡ true) (cons_parts c (character (value c)) text (map character (map value text)) known.1).0 low in
    let small : leb (value c) 7 ≡ true = sym (leb-character (value c) known.0.0) ∙ first in
    let shorter : length (map value text) ≡ 25 = length-map text value ∙ (omega arith) in
    record {
      digits = map value (c ∷ text);
      count = length-map (c ∷ text) value ∙ count;
      below_base = known.0;
      characters = known.1;
      number = is;
      fits = subst (λ n. n < 2 ^ 128) (sym is) (number-first (value c) (map value text) shorter known.0.1 small);
    }

pub ulid_of-found : (text : List ℕ) (ulid : ℕ) → ulid_of text ≡ Ok ulid → IsUlidText text ulid
unfolding ulid_of
ulid_of-found text ulid is =
    let counted = cond_ok_second (eqb (length text) 26) (read_characters (bad_place text) text) BadLength ulid is in
    let count : length text ≡ 26 = let test = counted.0 in grind (arith, nat_tests) in
    let known = Ok-characters (bad_place text) text ulid counted.1 in
    found-characters text ulid count known.0 known.1 known.2

only-characters : (digits : List ℕ) → length digits ≡ 26 → AllBelowBase 32 digits → number_from_digits 32 digits < 2 ^ 128
    → read_characters None (map character digits) ≡ Ok (number_of (map character digits))
only-characters [] count all fits = absurd (omega arith)
only-characters (d ∷ digits) count all fits =
    let low : leb (character d) 55 ≡ true = leb-character d all.0 ∙ first-number d digits (omega arith) fits in
    ap (λ b. cond b (Ok (number_of (map character (d ∷ digits)))) (Err TooLarge)) low

pub ulid_of-only : (text : List ℕ) (ulid : ℕ) → IsUlidText text ulid → ulid_of text ≡ Ok ulid
unfolding ulid_of
ulid_of-only text ulid is =
    let known = digits-only is.digits is.below_base in
    let count : length text ≡ 26 = ap length is.characters ∙ length-map is.digits character ∙ is.count in
    let none : bad_place text ≡ None = ap bad_place is.characters ∙ known.0 in
    let number : number_of text ≡ ulid = ap number_of is.characters ∙ number_of-digits is.digits is.below_base ∙ sym is.number in
    let read : read_characters None text ≡ Ok (number_of text) =
    subst (λ t. read_characters None t ≡ Ok (number_of t)) (sym is.characters)
    (only-characters is.digits is.count is.below_base (subst (λ n. n < 2 ^ 128) is.number is.fits)) in
    ap (λ n. cond (eqb n 26) (read_characters (bad_place text) text) (Err BadLength)) count
    ∙ ap (λ o. read_characters o text) none ∙ read ∙ ap Ok number

by_place : {P : Type 0} (o : Option ℕ) → ((p : ℕ) → o ≡ Some p → P) → (o ≡ None → P) → P
by_place (Some p) f g = f p refl
by_place None f g = g refl

-- the four answers and when each comes
ulid_of-cases : {P : Type 0} (text : List ℕ) → (length text ≢ 26 → ulid_of text ≡ Err BadLength → P) → ((place : ℕ) → length text ≡ 26 → bad_place text ≡ Some place → ulid_of text ≡ Err (BadCharacter place) → P)
    → (length text ≡ 26 → bad_place text ≡ None → 55 < get_or text 0 0 → ulid_of text ≡ Err TooLarge → P) → (length text ≡ 26 → bad_place text ≡ None → get_or text 0 0 ≤ 55 → ulid_of text ≡ Ok (number_of text) → P) → P
unfolding ulid_of
ulid_of-cases text f g h k = by_bool (eqb (length text) 26)
    (λ t. let long : length text ≡ 26 = grind (arith, nat_tests) in
    let read : ulid_of text ≡ read_characters (bad_place text) text = ap (λ b. cond b (read_characters (bad_place text) text) (Err BadLength)) t in
    by_place (bad_place text)
    (λ place e. g place long e (read ∙ ap (λ p. read_characters p text) e))
    (λ none. by_bool (leb (get_or text 0 0) 55)
    (λ low. let small : get_or text 0 0 ≤ 55 = grind (arith, nat_tests) in
    k long none small (read ∙ ap (λ p. read_characters p text) none ∙ ap (λ b. cond b (Ok (number_of text)) (Err TooLarge)) low))
    (λ high. let large : 55 < get_or text 0 0 = grind (arith, nat_tests) in
    h long none large (read ∙ ap (λ p. read_characters p text) none ∙ ap (λ b. cond b (Ok (number_of text)) (Err TooLarge)) high))))
    (λ t. let other : length text ≢ 26 = grind (arith, nat_tests) in f other (ap (λ b. cond b (read_characters (bad_place text) text) (Err BadLength)) t))

-- each refusal comes exactly where its case is the first
pub length_refused : (text : List ℕ) → (ulid_of text ≡ Err BadLength) ↔ (length text ≢ 26)
length_refused text = (
  λ e. ulid_of-cases text (λ other r. other) (λ place long bad r. absurd cc) (λ long none large r. absurd cc) (λ long none small r. absurd cc),
  λ other. ulid_of-cases text (λ n r. r) (λ place long bad r. absurd (other long)) (λ long none large r. absurd (other long)) (λ long none small r. absurd (other long)),
)

pub character_refused : (text : List ℕ) (place : ℕ) → (ulid_of text ≡ Err (BadCharacter place)) ↔ ((length text ≡ 26) × (bad_place text ≡ Some place))
character_refused text place = (
  λ e. ulid_of-cases text (λ other r. absurd cc) (λ p long bad r. (long, cc)) (λ long none large r. absurd cc) (λ long none small r. absurd cc),
  λ w. ulid_of-cases text
      (λ other r. absurd (other w.0))
      (λ p long bad r. cc (w.1))
      (λ long none large r. absurd (some_not_none place (bad_place text) w.1 none))
      (λ long none small r. absurd (some_not_none place (bad_place text) w.1 none)),
)

pub large_refused : (text : List ℕ) → (ulid_of text ≡ Err TooLarge) ↔ ((length text ≡ 26) × (bad_place text ≡ None) × (55 < get_or text 0 0))
large_refused text = (
  λ e. ulid_of-cases text (λ other r. absurd cc) (λ p long bad r. absurd cc) (λ long none large r. (long, none, large)) (λ long none small r. absurd cc),
  λ w. ulid_of-cases text
      (λ other r. absurd (other w.0))
      (λ p long bad r. absurd (some_not_none p (bad_place text) bad w.1))
      (λ long none large r. r)
      (λ long none small r. absurd (omega (arith, w.2))),
)

pub found_of : (text : List ℕ) (r : Result ℕ UlidRefusal) → r ≡ ulid_of text → IfOk r (IsUlidText text)
found_of text (Ok ulid) e = ulid_of-found text ulid (sym e)
found_of text (Err refusal) e = tt
