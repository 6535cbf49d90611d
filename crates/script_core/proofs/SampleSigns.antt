-- The bytes of a sample's text, and how many they are.
use Rattle.std.proofs.Common.{◌≡◌, ◌≢◌, ℕ, ◌*◌, ◌<◌, ◌≤◌, ◌^◌, ℤ, pos, negsuc, Bool, true, false, not, cond, ◌&&◌, nat_lt, ◌==◌, List, [], ◌∷◌, ◌++◌, length, map, Some, None, All, refl, ap, ◌∙◌, suc, arith, rules, tests}
use Rattle.std.specs.Char.{is_ascii_digit}
use Rattle.std.specs.Int.Signed.{mag}
use Rattle.std.specs.List.{list_all, flat_map}
use Rattle.std.proofs.lemmas.Bool.{and_parts}
use Rattle.std.proofs.lemmas.Fmt.{length_signed_le}
use Rattle.std.proofs.lemmas.Int.{ints}
use Rattle.std.proofs.lemmas.List.{length-append, length-map}
use Rattle.std.proofs.lemmas.List.Elements.{All-head, All-tail}
use Rattle.std.proofs.lemmas.List.Folds.{list_all-append}
use Rattle.base.specs.Decimal.{decimal_text, signed_text}
use Rattle.base.specs.FixedDigits.{fixed_digits}
use Rattle.base.proofs.Decimals.{decimal_again, decimal_digits}
use Rattle.base.proofs.Positional.{length-fixed_digits}
use Rattle.base.proofs.Printed.{printed_signed}
use Rattle.label_sets.specs.SampleText.{is_hex_sign, hex_sign, pattern_of, pattern_text, hex_text, hex_number, timed_text, sample_text, spaced_sample_text}
use Rattle.label_sets.specs.declared.sample.Sample.{Sample}
use Rattle.label_sets.proofs.HexTexts.{pattern_again}
use Rattle.script_fields.specs.Fields.{is_space, is_newline}
use Rattle.script_core.specs.Parts.{HasField}
use Rattle.script_core.specs.Spelling.{IsField, IsNear, AreSampleFields}
use Rattle.script_core.proofs.SpelledValues.{near_tested}
use Rattle.script_core.proofs.ValueLaws.{time_fits}

-- a byte of ASCII that is no space and no newline
pub is_sign : ℕ → Bool
is_sign byte = nat_lt 32 byte && nat_lt byte 128

pub all_weaker : (p q : ℕ → Bool) → ((byte : ℕ) → p byte ≡ true → q byte ≡ true) → (text : List ℕ) → list_all p text ≡ true → list_all q text ≡ true
all_weaker p q weaker [] all = refl
all_weaker p q weaker (byte ∷ text) all =
    let parts = and_parts (p byte) (list_all p text) all in
    rw (weaker byte parts.0) (all_weaker p q weaker text parts.1)

pub all_joined : (p : ℕ → Bool) (front text : List ℕ) → list_all p front ≡ true → list_all p text ≡ true → list_all p (front ++ text) ≡ true
all_joined p front text first second =
    list_all-append p front text ∙ rw first second

digit_sign : (byte : ℕ) → is_ascii_digit byte ≡ true → is_sign byte ≡ true
unfolding is_sign
digit_sign byte is = search (rules, tests)

hex_is_sign : (byte : ℕ) → is_hex_sign byte ≡ true → is_sign byte ≡ true
unfolding is_sign is_hex_sign
hex_is_sign byte is = search (rules, tests)

pub sign_not_space : (byte : ℕ) → is_sign byte ≡ true → not (is_space byte) ≡ true
unfolding is_sign
sign_not_space byte is = search (rules, tests)

pub sign_not_newline : (byte : ℕ) → is_sign byte ≡ true → not (is_newline byte) ≡ true
unfolding is_sign
sign_not_newline byte is = search (rules, tests)

pub sign_is_ascii : (byte : ℕ) → is_sign byte ≡ true → nat_lt byte 128 ≡ true
unfolding is_sign
sign_is_ascii byte is = (and_parts (nat_lt 32 byte) (nat_lt byte 128) is).1

decimal_signs : (n : ℕ) → list_all is_sign (decimal_text n) ≡ true
decimal_signs n =
    all_weaker is_ascii_digit is_sign digit_sign (decimal_text n) (decimal_digits (decimal_text n) (decimal_again n).0).1

signed_signs : (n : ℤ) → list_all is_sign (signed_text n) ≡ true
unfolding signed_text is_sign
signed_signs (pos n) = decimal_signs n
signed_signs (negsuc n) = decimal_signs (suc n)

some_where : (b : Bool) (n m : ℕ) → cond b (Some n) None ≡ Some m → b ≡ true
some_where true n m is = refl
some_where false n m is = absurd cc

pattern_signs : (pattern : ℕ) → pattern < 2 ^ 64 → list_all is_sign (pattern_text pattern) ≡ true
unfolding pattern_of
pattern_signs pattern fits =
    let digits = pattern_text pattern in
    let test = some_where ((length digits == 16) && list_all is_hex_sign digits) (hex_number digits) pattern (pattern_again pattern fits) in
    all_weaker is_hex_sign is_sign hex_is_sign digits (and_parts (length digits == 16) (list_all is_hex_sign digits) test).1

pub sample_signs : (sample : Sample) → sample.pattern < 2 ^ 64 → list_all is_sign (sample_text sample) ≡ true
unfolding sample_text timed_text is_sign
sample_signs sample fits =
    all_joined is_sign (signed_text sample.time) (58 ∷ pattern_text sample.pattern) (signed_signs sample.time) (pattern_signs sample.pattern fits)

sample_some : (sample : Sample) → sample_text sample ≢ []
unfolding sample_text timed_text
sample_some sample = λ none.
    omega (arith, ap length none, length-append (signed_text sample.time) (58 ∷ pattern_text sample.pattern))

sample_field : (sample : Sample) → sample.pattern < 2 ^ 64 → IsField (sample_text sample)
sample_field sample fits = record {
  some = sample_some sample;
  no_space = all_weaker is_sign (λ byte. not (is_space byte)) sign_not_space (sample_text sample) (sample_signs sample fits);
}

-- the texts of samples are their fields
pub sample_fields : (samples : List Sample) → All HasField samples → AreSampleFields (map sample_text samples) samples
sample_fields [] all = tt
sample_fields (sample ∷ samples) all =
    let has = All-head HasField sample samples all in (
      record { field = sample_field sample has.pattern; written = refl; near = has.near; pattern = has.pattern },
      sample_fields samples (All-tail HasField sample samples all),
    )

-- what holds of a space and of each sign holds of each byte of a line's samples
pub samples_all : (p : ℕ → Bool) → p 32 ≡ true → ((byte : ℕ) → is_sign byte ≡ true → p byte ≡ true) → (samples : List Sample) → All HasField samples → list_all p (flat_map spaced_sample_text samples) ≡ true
unfolding spaced_sample_text
samples_all p space weaker [] all = refl
samples_all p space weaker (sample ∷ samples) all =
    let has = All-head HasField sample samples all in
    let signs = all_weaker is_sign p weaker (sample_text sample) (sample_signs sample has.pattern) in
    all_joined p (32 ∷ sample_text sample) (flat_map spaced_sample_text samples) (rw space signs) (samples_all p space weaker samples (All-tail HasField sample samples all))

-- ---- how many they are

near_mag : (time : ℤ) → IsNear time → mag time ≤ 2 ^ 62
near_mag (pos n) near = grind (arith, ints, near.late)
near_mag (negsuc n) near = grind (arith, ints, near.early)

time_size : (time : ℤ) → IsNear time → length (signed_text time) ≤ 20
time_size time near =
    let small = near_mag time near in
    let size = length_signed_le 19 time (omega (arith, small)) (omega (arith, small)) in
    omega (arith, size, ap length (printed_signed time (time_fits time (near_tested time near))))

decimal_least : (n : ℕ) → 0 < length (decimal_text n)
decimal_least n = (decimal_digits (decimal_text n) (decimal_again n).0).0

time_least : (time : ℤ) → 0 < length (signed_text time)
unfolding signed_text
time_least (pos n) = decimal_least n
time_least (negsuc n) = omega arith

pattern_size : (pattern : ℕ) → length (pattern_text pattern) ≡ 16
unfolding pattern_text hex_text
pattern_size pattern =
    length-map (fixed_digits 16 16 pattern) hex_sign ∙ length-fixed_digits 16 16 pattern

sample_size : (sample : Sample) → HasField sample → length (spaced_sample_text sample) ≤ 38
unfolding spaced_sample_text sample_text timed_text
sample_size sample has =
    omega (arith, time_size sample.time has.near, pattern_size sample.pattern, length-append (signed_text sample.time) (58 ∷ pattern_text sample.pattern))

-- and at least
sample_least : (sample : Sample) → 19 ≤ length (spaced_sample_text sample)
unfolding spaced_sample_text sample_text timed_text
sample_least sample =
    omega (arith, time_least sample.time, pattern_size sample.pattern, length-append (signed_text sample.time) (58 ∷ pattern_text sample.pattern))

pub samples_least : (samples : List Sample) → 19 * length samples ≤ length (flat_map spaced_sample_text samples)
samples_least [] = omega arith
samples_least (sample ∷ samples) =
    omega (arith, length-append (spaced_sample_text sample) (flat_map spaced_sample_text samples), sample_least sample, samples_least samples)

pub samples_size : (samples : List Sample) → All HasField samples → length (flat_map spaced_sample_text samples) ≤ 38 * length samples
samples_size [] all = omega arith
samples_size (sample ∷ samples) all =
    omega (
      arith,
      length-append (spaced_sample_text sample) (flat_map spaced_sample_text samples),
      sample_size sample (All-head HasField sample samples all),
      samples_size samples (All-tail HasField sample samples all),
    )
