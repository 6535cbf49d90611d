-- How a selector is read, byte by byte: where a reader stands, what it has read, and by which bytes it goes on. Each stage is
-- named for what was read last.
use Rattle.std.specs.Prelude.{ℕ, ◌+◌, List, [], ◌∷◌, ◌++◌, map, All, ◌||◌, ◌==◌, Result, Ok, Err, if◌then◌else◌}
use Rattle.std.specs.Str.{IsUtf8}
use Rattle.base.specs.Reading.{◌>>=◌}
use Rattle.base.specs.Lines.{line_feed}
use Rattle.label_sets.specs.Characters.{double_quote, comma, equals_sign, backslash, letter_n, open_brace, close_brace}
use Rattle.label_sets.specs.Notation.{is_name_start, is_name_byte}
use Rattle.matchers.specs.declared.asked.Asked.{Asked}
use Rattle.matchers.specs.declared.condition.Condition.{Condition}
use Rattle.matchers.specs.declared.condition.Condition.TheVariants as conditions
use Rattle.matchers.specs.declared.draft.Draft.{Draft}
use Rattle.matchers.specs.declared.matcher.Matcher.{Matcher}
use Rattle.matchers.specs.declared.asked.Operator.{Operator}
use Rattle.matchers.specs.declared.asked.Operator.TheVariants.{Equal, NotEqual, Matches, MatchesNot}
use Rattle.matchers.specs.declared.selector_refusal.SelectorRefusal.{SelectorRefusal}
use Rattle.matchers.specs.declared.selector_refusal.SelectorRefusal.TheVariants.{BadSelector}
use Rattle.matchers.specs.declared.stage.Stage.{Stage}
use Rattle.matchers.specs.declared.stage.Stage.TheVariants.{Start, Metric, Comma, Name, Exclamation, Equals, Sign, Value, Backslash, Quote, End}
use Rattle.matchers.specs.Selectors.{is_metric_start, is_metric_byte}
use Rattle.matchers.specs.SelectorText.{exclamation, tilde, metric_part}

-- ---- what was read

abbrev pub condition_of : Operator → List ℕ → Condition
condition_of Equal value = conditions.Equal value
condition_of NotEqual value = conditions.NotEqual value
condition_of Matches value = conditions.Matches value
condition_of MatchesNot value = conditions.MatchesNot value

abbrev pub matcher_of : Asked → Matcher
matcher_of asked = record { name = asked.name; condition = condition_of asked.operator asked.value }

-- the selector of a text that was read to its end
abbrev pub selector_of : Draft → List Matcher
selector_of draft = metric_part draft.metric ++ map matcher_of draft.listed

-- all that was read is in UTF-8
pub record AreTexts (draft : Draft) : Type 0 where
  pub metric : IsUtf8 draft.metric
  pub listed : All (λ asked. IsUtf8 asked.name × IsUtf8 asked.value) draft.listed

-- ---- by which bytes it goes on

abbrev pub nothing_asked : Asked
nothing_asked = record { name = []; operator = Equal; value = []; quote = 0 }

abbrev pub nothing_read : Draft
nothing_read = record { stage = Start; metric = []; listed = []; asked = nothing_asked }

abbrev pub Next : Type 0
Next = Result Draft SelectorRefusal

abbrev pub goes_to : Stage → Draft → Next
goes_to stage draft = Ok (record draft { stage = stage })

abbrev pub with_metric : ℕ → Draft → Next
with_metric byte draft = Ok (record draft { stage = Metric; metric = draft.metric ++ byte ∷ [] })

abbrev pub with_name : ℕ → Draft → Next
with_name byte draft =
    Ok (record draft { stage = Name; asked = record draft.asked { name = draft.asked.name ++ byte ∷ [] } })

abbrev pub with_operator : Operator → Stage → Draft → Next
with_operator operator stage draft =
    Ok (record draft { stage = stage; asked = record draft.asked { operator = operator } })

abbrev pub with_quote : ℕ → Draft → Next
with_quote place draft = Ok (record draft { stage = Value; asked = record draft.asked { quote = place } })

abbrev pub with_value : ℕ → Draft → Next
with_value byte draft =
    Ok (record draft { stage = Value; asked = record draft.asked { value = draft.asked.value ++ byte ∷ [] } })

abbrev pub with_asked : Stage → Draft → Next
with_asked stage draft =
    Ok (record draft { stage = stage; listed = draft.listed ++ draft.asked ∷ []; asked = nothing_asked })

unfoldable pub after_start : Draft → ℕ → ℕ → Next
after_start draft place byte =
    if byte == open_brace then goes_to Comma draft
    else (if is_metric_start byte then with_metric byte draft
    else Err (BadSelector place))

unfoldable pub after_metric : Draft → ℕ → ℕ → Next
after_metric draft place byte =
    if byte == open_brace then goes_to Comma draft
    else (if is_metric_byte byte then with_metric byte draft
    else Err (BadSelector place))

-- after the opening brace or a comma
unfoldable pub after_comma : Draft → ℕ → ℕ → Next
after_comma draft place byte =
    if byte == close_brace then goes_to End draft
    else (if is_name_start byte then with_name byte draft
    else Err (BadSelector place))

unfoldable pub after_name : Draft → ℕ → ℕ → Next
after_name draft place byte =
    if byte == equals_sign then with_operator Equal Equals draft
    else (if byte == exclamation then goes_to Exclamation draft
    else (if is_name_byte byte then with_name byte draft
    else Err (BadSelector place)))

unfoldable pub after_exclamation : Draft → ℕ → ℕ → Next
after_exclamation draft place byte =
    if byte == equals_sign then with_operator NotEqual Sign draft
    else (if byte == tilde then with_operator MatchesNot Sign draft
    else Err (BadSelector place))

unfoldable pub after_equals : Draft → ℕ → ℕ → Next
after_equals draft place byte =
    if byte == double_quote then with_quote place draft
    else (if byte == tilde then with_operator Matches Sign draft
    else Err (BadSelector place))

-- after an operator that no byte can make longer
unfoldable pub after_sign : Draft → ℕ → ℕ → Next
after_sign draft place byte =
    if byte == double_quote then with_quote place draft
    else Err (BadSelector place)

unfoldable pub in_value : Draft → ℕ → ℕ → Next
in_value draft place byte =
    if byte == double_quote then goes_to Quote draft
    else (if byte == backslash then goes_to Backslash draft
    else (if byte == line_feed then Err (BadSelector place)
    else with_value byte draft))

unfoldable pub after_backslash : Draft → ℕ → ℕ → Next
after_backslash draft place byte =
    if byte == letter_n then with_value line_feed draft
    else (if byte == backslash || byte == double_quote then with_value byte draft
    else Err (BadSelector place))

-- after a closing quote
unfoldable pub after_quote : Draft → ℕ → ℕ → Next
after_quote draft place byte =
    if byte == comma then with_asked Comma draft
    else (if byte == close_brace then with_asked End draft
    else Err (BadSelector place))

abbrev pub step_from : Stage → Draft → ℕ → ℕ → Next
step_from Start draft place byte = after_start draft place byte
step_from Metric draft place byte = after_metric draft place byte
step_from Comma draft place byte = after_comma draft place byte
step_from Name draft place byte = after_name draft place byte
step_from Exclamation draft place byte = after_exclamation draft place byte
step_from Equals draft place byte = after_equals draft place byte
step_from Sign draft place byte = after_sign draft place byte
step_from Value draft place byte = in_value draft place byte
step_from Backslash draft place byte = after_backslash draft place byte
step_from Quote draft place byte = after_quote draft place byte
step_from End draft place byte = Err (BadSelector place)

-- the byte at a place
unfoldable pub step : Draft → ℕ → ℕ → Next
step draft place byte = step_from draft.stage draft place byte

-- A selector may end behind a metric name and behind the closing brace.
abbrev pub ended_from : Stage → Draft → ℕ → Next
ended_from Metric draft place = Ok draft
ended_from End draft place = Ok draft
ended_from other draft place = Err (BadSelector place)

unfoldable pub ended_draft : Draft → ℕ → Next
ended_draft draft place = ended_from draft.stage draft place

-- all bytes from a place on
unfoldable pub read_from : Draft → ℕ → List ℕ → Next
read_from draft place [] = ended_draft draft place
read_from draft place (byte ∷ bytes) = step draft place byte >>= λ next. read_from next (place + 1) bytes

-- What reading a whole text gives.
abbrev pub read_whole : List ℕ → Next
read_whole text = read_from nothing_read 0 text
