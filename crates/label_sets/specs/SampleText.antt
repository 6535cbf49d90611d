-- Samples and series as text: `TIME:PATTERN`, and a label set with its samples after it, each after a space.
use Rattle.std.specs.Prelude.{ℕ, ℤ, List, ◌∷◌, ◌++◌, map, length, Bool, ◌&&◌, ◌||◌, ◌==◌, Option, Some, None, Result, Ok, Err, if◌then◌else◌}
use Rattle.std.specs.Char.{digit_char, is_ascii_digit}
use Rattle.std.specs.Int.{is_in_range}
use Rattle.std.specs.List.{flat_map, list_all, before_first, after_first}
use Rattle.std.specs.Str.Parse.{digits_value}
use Rattle.base.specs.Decimal.{signed_text, signed_of}
use Rattle.base.specs.FixedDigits.{fixed_digits}
use Rattle.base.specs.declared.number.NumberRefusal.{NumberRefusal}
use Rattle.base.specs.declared.number.NumberRefusal.TheVariants.{NotANumber, TooLarge}
use Rattle.label_sets.specs.Characters.{space, colon, letter_a, letter_f}
use Rattle.label_sets.specs.declared.sample.Sample.{Sample}
use Rattle.label_sets.specs.declared.sample.SampleRefusal.{SampleRefusal}
use Rattle.label_sets.specs.declared.sample.SampleRefusal.TheVariants.{NotASample, OutOfRange}
use Rattle.label_sets.specs.declared.series.Series.{Series}
use Rattle.label_sets.specs.Notation.{set_text}

-- the sign of a hexadecimal digit, in lower case
unfoldable pub hex_sign : ℕ → ℕ
hex_sign digit = digit_char digit

-- the last digits of a number in base 16, so many of them
unfoldable pub hex_text : ℕ → ℕ → List ℕ
hex_text count number = map hex_sign (fixed_digits 16 count number)

-- how many signs a pattern has
abbrev pub pattern_length : ℕ
pattern_length = 16

-- a pattern of 64 bits
unfoldable pub pattern_text : ℕ → List ℕ
pattern_text pattern = hex_text pattern_length pattern

-- `TIME:PATTERN`
unfoldable pub timed_text : ℤ → ℕ → List ℕ
timed_text time pattern = signed_text time ++ colon ∷ pattern_text pattern

unfoldable pub sample_text : Sample → List ℕ
sample_text sample = timed_text sample.time sample.pattern

-- the same after a space
unfoldable pub spaced_sample_text : Sample → List ℕ
spaced_sample_text sample = space ∷ sample_text sample

-- LABELS, and ` TIME:PATTERN` for each sample
unfoldable pub series_text : Series → List ℕ
series_text series = set_text series.labels ++ flat_map spaced_sample_text series.samples

-- ---- reading

-- such a sign: a digit, or a letter from a to f
unfoldable pub is_hex_sign : ℕ → Bool
is_hex_sign byte = is_ascii_digit byte || is_in_range letter_a letter_f byte

unfoldable pub hex_number : List ℕ → ℕ
hex_number digits = digits_value 16 digits

-- the pattern of so many digits
unfoldable pub pattern_of : List ℕ → Option ℕ
pattern_of digits = if length digits == pattern_length && list_all is_hex_sign digits then Some (hex_number digits) else None

-- a sample of a time and a pattern that were read
unfoldable pub sample_with : Option ℕ → Result ℤ NumberRefusal → Result Sample SampleRefusal
sample_with None time = Err NotASample
sample_with (Some pattern) (Ok time) = Ok (record { time = time; pattern = pattern })
sample_with (Some pattern) (Err NotANumber) = Err NotASample
sample_with (Some pattern) (Err TooLarge) = Err OutOfRange

abbrev pub is_colon : ℕ → Bool
is_colon byte = byte == colon

-- what reading a sample gives: it is cut at its first colon
unfoldable pub sample_of : List ℕ → Result Sample SampleRefusal
sample_of text = sample_with (pattern_of (after_first is_colon text)) (signed_of (before_first is_colon text))
