-- The text of a span: 1 to 12 decimal digits and a unit. A span is at most the longest one.
use Rattle.std.specs.Prelude.{◌≡◌, ℕ, ◌*◌, ◌≤◌, ◌⊎◌, Bool, true, not, List, ◌++◌, codes, drop, Option, None, Some, nat_le, if◌then◌else◌}
use Rattle.std.specs.Char.{is_ascii_digit}
use Rattle.std.specs.List.{before_first, position_or_len}
use Rattle.std.specs.Str.{bytes_eq}
use Rattle.std.specs.Str.Parse.{digits_value}
use Rattle.base.specs.ShortNumber.{is_number, number_of}
use Rattle.moment_core.specs.Limits.{longest_span, one_second, one_minute, one_hour, span_digits}

-- a unit and how many milliseconds it has
abbrev pub IsUnit : List ℕ → ℕ → Type 0
IsUnit unit ms =
    ((unit ≡ codes "ms") × (ms ≡ 1)) ⊎ (((unit ≡ codes "s") × (ms ≡ one_second)) ⊎ (((unit ≡ codes "m") × (ms ≡ one_minute)) ⊎ ((unit ≡ codes "h") × (ms ≡ one_hour))))

-- The text is that of the span.
pub record IsSpanText (text : List ℕ) (ms : ℕ) : Type 0 where
  pub digits : List ℕ
  pub unit : List ℕ
  pub each : ℕ
  pub text_is : text ≡ digits ++ unit
  pub is_number : is_number span_digits digits ≡ true
  pub is_unit : IsUnit unit each
  pub ms_is : ms ≡ digits_value 10 digits * each
  pub at_most : ms ≤ longest_span

-- how many milliseconds a unit has
unfoldable pub unit_of : List ℕ → Option ℕ
unit_of unit =
    if bytes_eq unit (codes "ms") then Some 1
    else (if bytes_eq unit (codes "s") then Some one_second
    else (if bytes_eq unit (codes "m") then Some one_minute
    else (if bytes_eq unit (codes "h") then Some one_hour else None)))

abbrev pub is_no_digit : ℕ → Bool
is_no_digit c = not (is_ascii_digit c)

-- so many of a unit, if they are a span
abbrev pub span_within : Option ℕ → Option ℕ → Option ℕ
span_within None unit = None
span_within (Some number) None = None
span_within (Some number) (Some each) = if nat_le (number * each) longest_span then Some (number * each) else None

-- what a text is read as: its unit begins at its first byte that is no digit
unfoldable pub span_of : List ℕ → Option ℕ
span_of text = span_within (number_of span_digits (before_first is_no_digit text)) (unit_of (drop (position_or_len is_no_digit text) text))
