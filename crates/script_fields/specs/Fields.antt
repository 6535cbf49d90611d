-- The lines of a text, and the fields of a line: what stands between single spaces.
use Rattle.std.specs.Prelude.{ℕ, List, [], ◌∷◌, length, Bool, not, ◌&&◌, ◌||◌, ◌==◌, nat_lt, slice_index, Option, None, Some, is_none, option_map, Result, Ok, Err, if◌then◌else◌, codes}
use Rattle.std.specs.List.{slice_split, position_or_len, before_first, after_first}
use Rattle.std.specs.Str.{byte as code, bytes_eq}
use Rattle.std.specs.Map.{lookup}
use Rattle.base.specs.Reading.{◌>>◌, unless}
use Rattle.base.specs.Lines.{line_feed}
use Rattle.label_sets.specs.Characters.{space}
use Rattle.script_fields.specs.declared.cause.LineCause.{LineCause}
use Rattle.script_fields.specs.declared.cause.LineCause.TheVariants.{BadShape}
use Rattle.script_fields.specs.declared.line_kind.LineKind.{LineKind}
use Rattle.script_fields.specs.declared.line_kind.LineKind.TheVariants as kinds
use Rattle.script_fields.specs.declared.rule_kind.RuleKind.{RuleKind}
use Rattle.script_fields.specs.declared.rule_kind.RuleKind.TheVariants.{Valued, ReplicaLabel, Retention}
use Rattle.script_fields.specs.declared.rule_name.RuleName.{RuleName}
use Rattle.script_fields.specs.declared.rule_name.RuleName.TheVariants as names

abbrev pub is_newline : ℕ → Bool
is_newline b = b == line_feed

abbrev pub is_space : ℕ → Bool
is_space b = b == space

-- The lines of a text. A newline ends a line, so after the last one an empty line is left, which says nothing.
abbrev pub lines_of : List ℕ → List (List ℕ)
lines_of text = slice_split is_newline text

-- A line says nothing where it is empty, and where it is a comment.
abbrev pub is_silent : List ℕ → Bool
is_silent line = length line == 0 || slice_index line 0 == code "#"

abbrev pub is_empty : List ℕ → Bool
is_empty field = length field == 0

-- The field at the front of what is left of a line, and what is left after the space behind it. Where nothing is left,
-- the field is empty.
unfoldable pub next_field : Option (List ℕ) → List ℕ × Option (List ℕ)
next_field None = ([], None)
next_field (Some text) =
    if nat_lt (position_or_len is_space text) (length text)
    then (before_first is_space text, Some (after_first is_space text))
    else (text, None)

-- the one field that is left of a line
unfoldable pub only_field : Option (List ℕ) → Result (List ℕ) LineCause
only_field left = do
  let field = next_field left
  unless (not (is_empty field.0) && is_none field.1) BadShape
  Ok field.0

-- what is left behind a space
unfoldable pub after_space : List ℕ → Result (List ℕ) LineCause
after_space [] = Err BadShape
after_space (byte ∷ rest) = if is_space byte then Ok rest else Err BadShape

-- the first words of lines
abbrev pub line_words : List (List ℕ × LineKind)
line_words =
    (codes "rule", kinds.Rule)
    ∷ (codes "gateway", kinds.Gateway)
    ∷ (codes "block", kinds.Block)
    ∷ (codes "series", kinds.Series)
    ∷ (codes "shelf", kinds.Shelf)
    ∷ (codes "at", kinds.At)
    ∷ (codes "upload", kinds.Upload)
    ∷ (codes "sync", kinds.Sync)
    ∷ (codes "compact", kinds.Compact)
    ∷ (codes "clean", kinds.Clean)
    ∷ (codes "query", kinds.Query)
    ∷ []

-- the names of the rules that have one value
abbrev pub rule_words : List (List ℕ × RuleName)
rule_words =
    (codes "consistency-delay", names.Consistency)
    ∷ (codes "ignore-delay", names.Ignore)
    ∷ (codes "delete-delay", names.Delete)
    ∷ (codes "partial-delay", names.Partial)
    ∷ (codes "upload-limit", names.Upload)
    ∷ (codes "tick", names.Tick)
    ∷ (codes "page-limit", names.PageLimit)
    ∷ []

abbrev pub line_kind : List ℕ → Option LineKind
line_kind word = lookup (bytes_eq word) line_words

abbrev pub rule_name : List ℕ → Option RuleName
rule_name word = lookup (bytes_eq word) rule_words

-- what a rule line says, by the rule's name
abbrev pub rule_kind : List ℕ → Option RuleKind
rule_kind word =
    if bytes_eq word (codes "replica-label") then Some ReplicaLabel
    else if bytes_eq word (codes "retention") then Some Retention
    else option_map Valued (rule_name word)
