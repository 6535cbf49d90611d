-- The text of a moment: 1 to 15 decimal digits are its milliseconds since 1970, and any other text is what `jiff` reads as a
-- timestamp, of whole milliseconds. A moment is below its limit.
use Rattle.std.specs.Prelude.{◌≡◌, ℕ, ℤ, pos, negsuc, ◌*◌, ◌/◌, ◌%◌, ◌<◌, List, Option, None, Some, Result, Ok, Err, ◌==◌, nat_lt, if◌then◌else◌}
use Rattle.std.specs.Bool.{MatchBool}
use Rattle.std.specs.Str.Parse.{digits_value}
use Rattle.jiff.specs.Words.{parse_timestamp, Error}
use Rattle.base.specs.ShortNumber.{is_number}
use Rattle.moment_core.specs.Limits.{moment_limit, moment_digits, one_millisecond}

-- The text is that of the moment.
pub record IsMomentText (text : List ℕ) (ms : ℕ) : Type 0 where
  pub below : ms < moment_limit
  pub written : MatchBool (is_number moment_digits text) (ms ≡ digits_value 10 text) (parse_timestamp text ≡ Ok (pos (ms * one_millisecond)))

-- milliseconds that are a moment
abbrev pub moment_within : ℕ → Option ℕ
moment_within ms = if nat_lt ms moment_limit then Some ms else None

-- the milliseconds of nanoseconds, if they are whole and a moment
abbrev pub moment_at : ℤ → Option ℕ
moment_at (pos nanoseconds) = if nanoseconds % one_millisecond == 0 then moment_within (nanoseconds / one_millisecond) else None
moment_at (negsuc below) = None

abbrev pub moment_of_timestamp : Result ℤ Error → Option ℕ
moment_of_timestamp (Ok nanoseconds) = moment_at nanoseconds
moment_of_timestamp (Err refusal) = None

-- what a text is read as
unfoldable pub moment_of : List ℕ → Option ℕ
moment_of text = if is_number moment_digits text then moment_within (digits_value 10 text) else moment_of_timestamp (parse_timestamp text)
