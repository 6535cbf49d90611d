-- Selectors as lists of matchers, and what they take.
use Rattle.std.specs.Prelude.{ℕ, List, [], ◌∷◌, Bool, true, false, not, ◌&&◌, ◌||◌, ◌==◌, unwrap_or}
use Rattle.std.specs.Char.{is_ascii_alphabetic, is_ascii_digit}
use Rattle.std.specs.List.{list_all}
use Rattle.std.specs.Str.{bytes_eq}
use lib.Chars.{codes}
use Rattle.label_sets.specs.Characters.{colon, underscore}
use Rattle.label_sets.specs.declared.label.Label.{Label}
use Rattle.label_sets.specs.Labels.{value_of}
use Rattle.matchers.specs.declared.matcher.Matcher.{Matcher}
use Rattle.matchers.specs.declared.condition.Condition.{Condition}
use Rattle.matchers.specs.declared.condition.Condition.TheVariants.{Equal, NotEqual, Matches, MatchesNot}
use Rattle.matchers.specs.Patterns.{is_matched}

-- the value that a matcher looks at: the empty one where there is no label of the name
unfoldable pub value_or_empty : List Label → List ℕ → List ℕ
value_or_empty labels name = unwrap_or (value_of labels name) []

-- whether a value is what the condition asks
unfoldable pub is_accepted : Condition → List ℕ → Bool
is_accepted (Equal asked) value = bytes_eq value asked
is_accepted (NotEqual asked) value = not (bytes_eq value asked)
is_accepted (Matches pattern) value = is_matched pattern value
is_accepted (MatchesNot pattern) value = not (is_matched pattern value)

-- whether the condition has a pattern
unfoldable pub has_pattern : Condition → Bool
has_pattern (Equal asked) = false
has_pattern (NotEqual asked) = false
has_pattern (Matches pattern) = true
has_pattern (MatchesNot pattern) = true

-- whether the matcher accepts the labels
unfoldable pub accepts : Matcher → List Label → Bool
accepts matcher labels = is_accepted matcher.condition (value_or_empty labels matcher.name)

-- whether all matchers accept the labels
unfoldable pub is_match : List Matcher → List Label → Bool
is_match matchers labels = list_all (λ matcher. accepts matcher labels) matchers

-- no matcher has a pattern
unfoldable pub is_plain : List Matcher → Bool
is_plain matchers = list_all (λ matcher. not (has_pattern matcher.condition)) matchers

abbrev pub is_metric_start : ℕ → Bool
is_metric_start byte = is_ascii_alphabetic byte || byte == underscore || byte == colon

abbrev pub is_metric_byte : ℕ → Bool
is_metric_byte byte = is_metric_start byte || is_ascii_digit byte

-- a metric name: an ASCII letter, `_` or `:`, and then these or digits
unfoldable pub is_metric_name : List ℕ → Bool
is_metric_name [] = false
is_metric_name (byte ∷ bytes) = is_metric_start byte && list_all is_metric_byte bytes

-- the matcher that a metric name stands for
unfoldable pub metric_matcher : List ℕ → Matcher
metric_matcher name = record { name = codes "__name__"; condition = Equal name }
