-- The samples of a series line, which single spaces keep apart.
use Rattle.std.specs.Prelude.{ℕ, List, [], ◌∷◌, length, Bool, true, false, not, ◌==◌, nat_lt, Result, Ok, Err, ℤ, if◌then◌else◌}
use Rattle.std.specs.List.{list_all, slice_split, position_or_len, before_first}
use Rattle.std.specs.Str.{byte}
use Rattle.base.specs.Reading.{◌>>=◌, refused_as}
use Rattle.base.specs.Decimal.{signed_of}
use Rattle.base.specs.declared.number.NumberRefusal.{NumberRefusal}
use Rattle.base.specs.declared.number.NumberRefusal.TheVariants.{NotANumber, TooLarge}
use Rattle.label_sets.specs.declared.sample.Sample.{Sample}
use Rattle.script_fields.specs.declared.cause.LineCause.{LineCause}
use Rattle.script_fields.specs.declared.cause.LineCause.TheVariants.{BadSample}
use Rattle.script_fields.specs.Fields.{is_space, is_empty}
use Rattle.script_fields.specs.Values.{is_time}
use Rattle.label_sets.specs.SampleText.{sample_of}
use Rattle.label_sets.specs.Times.{is_within}

-- the texts of the samples
abbrev pub texts_of : List ℕ → List (List ℕ)
texts_of texts = slice_split is_space texts

abbrev pub are_whole : List ℕ → Bool
are_whole texts = list_all (λ text. not (is_empty text)) (texts_of texts)

abbrev pub is_colon : ℕ → Bool
is_colon b = b == byte ":"

abbrev pub is_small_number : Result ℤ NumberRefusal → Bool
is_small_number (Ok time) = is_time time
is_small_number (Err TooLarge) = false
is_small_number (Err NotANumber) = true

-- a number before a colon is a time of the script
unfoldable pub has_small_number : List ℕ → Bool
has_small_number text =
    if nat_lt (position_or_len is_colon text) (length text)
    then is_small_number (signed_of (before_first is_colon text))
    else true

abbrev pub have_small_numbers : List ℕ → Bool
have_small_numbers texts = list_all has_small_number (texts_of texts)

-- each text is a sample
unfoldable pub samples_from : List (List ℕ) → Result (List Sample) LineCause
samples_from [] = Ok []
samples_from (text ∷ texts) = do
  sample ← refused_as (λ _. BadSample) (sample_of text)
  samples ← samples_from texts
  Ok (sample ∷ samples)

abbrev pub samples_of : List ℕ → Result (List Sample) LineCause
samples_of texts = samples_from (texts_of texts)

-- each is at the first time or after it, and before the last
abbrev pub are_within : ℤ → ℤ → List Sample → Bool
are_within first last samples = list_all (is_within first last) samples
