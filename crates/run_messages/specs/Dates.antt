-- How a moment is told.
use Rattle.std.specs.Prelude.{◌≡◌, ◌⊎◌, ℕ, ◌*◌, ℤ, pos, List, ◌++◌, codes}
use Rattle.base.specs.Decimal.{decimal_text}
use Rattle.jiff.specs.Words.{IsTimestampNanos, civil_nanos, iso_datetime_text}
use Rattle.jiff.specs.Types.{DateTime}
use Rattle.moment_core.specs.Limits.{one_millisecond}

-- milliseconds since 1970, in nanoseconds
abbrev pub nanoseconds : ℕ → ℤ
nanoseconds ms = pos (ms * one_millisecond)

-- the text of a date in universal time, as `1970-01-03T02:00:00.101Z`
abbrev pub date_text : DateTime → List ℕ
date_text date = iso_datetime_text date ++ codes "Z"

-- the text is that of an instant's date
abbrev pub IsDate : List ℕ → ℤ → Type 0
IsDate text instant = (date : DateTime) × (civil_nanos date ≡ instant) × (text ≡ date_text date)

-- a moment is told by its date, or, where the calendar has none so late, by its milliseconds
abbrev pub IsDateOf : List ℕ → ℕ → Type 0
IsDateOf text ms =
    (IsTimestampNanos (nanoseconds ms) × IsDate text (nanoseconds ms))
    ⊎ ((IsTimestampNanos (nanoseconds ms) → ⊥) × (text ≡ decimal_text ms))
