-- The limits of moments and rules, and the units of spans.
use Rattle.std.specs.Prelude.{ℕ, ◌^◌}

-- A text or a clock line names a moment below this. Ticks may pass it.
abbrev pub moment_limit : ℕ
moment_limit = 2 ^ 47

-- how many digits the milliseconds of a moment have at most
abbrev pub moment_digits : ℕ
moment_digits = 15

-- the longest span in milliseconds
abbrev pub longest_span : ℕ
longest_span = 2 ^ 46

-- how many digits the number of a span has at most
abbrev pub span_digits : ℕ
span_digits = 12

-- a day, the longest tick in milliseconds
abbrev pub longest_tick : ℕ
longest_tick = 86_400_000

-- a millisecond, in nanoseconds
abbrev pub one_millisecond : ℕ
one_millisecond = 1_000_000

-- ---- units, in milliseconds

abbrev pub one_second : ℕ
one_second = 1_000

abbrev pub one_minute : ℕ
one_minute = 60_000

abbrev pub one_hour : ℕ
one_hour = 3_600_000
