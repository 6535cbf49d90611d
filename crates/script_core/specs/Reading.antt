-- Reading a script, line by line.
use Rattle.std.specs.Prelude.{ℕ, ◌+◌, List, [], ◌∷◌, length, Bool, true, false, nat_lt, ok_or, Option, None, Some, Result, Ok, Err, if◌then◌else◌}
use Rattle.std.specs.Str.{is_utf8}
use Rattle.base.specs.Reading.{◌>>=◌, ◌>>◌, refused_as}
use Rattle.script_fields.specs.Limits.{longest_text}
use Rattle.script_fields.specs.declared.cause.LineCause.TheVariants as causes
use Rattle.script_fields.specs.declared.line_kind.LineKind.{LineKind}
use Rattle.script_fields.specs.declared.line_kind.LineKind.TheVariants as kinds
use Rattle.script_fields.specs.declared.line_refusal.LineRefusal.{LineRefusal}
use Rattle.script_fields.specs.declared.line_refusal.LineRefusal.TheVariants as lines
use Rattle.script_core.specs.declared.script.Script.{Script}
use Rattle.script_fields.specs.declared.script_refusal.ScriptRefusal.{ScriptRefusal}
use Rattle.script_fields.specs.declared.script_refusal.ScriptRefusal.TheVariants as scripts
use Rattle.script_fields.specs.Fields.{lines_of, is_silent, next_field, line_kind}
use Rattle.script_core.specs.State.{State, start, end_block, finish}
use Rattle.script_fields.specs.LineRefusals.{of_line}
use Rattle.script_core.specs.Lines.{fields_line}
use Rattle.moment_core.specs.StandardRules.{standard_rules}

abbrev pub is_series : Option LineKind → Bool
is_series None = false
is_series (Some kinds.Rule) = false
is_series (Some kinds.Gateway) = false
is_series (Some kinds.Block) = false
is_series (Some kinds.Series) = true
is_series (Some kinds.Shelf) = false
is_series (Some kinds.At) = false
is_series (Some kinds.Upload) = false
is_series (Some kinds.Sync) = false
is_series (Some kinds.Compact) = false
is_series (Some kinds.Clean) = false
is_series (Some kinds.Query) = false

-- a line of a kind, if its first word has one
unfoldable pub kind_line : State → ℕ → Option LineKind → Option (List ℕ) → Result State LineRefusal
kind_line st number kind left = do
  known ← ok_or kind (lines.Bad causes.UnknownWord)
  fields_line st number known left

-- A line that says something, and is text. One that is not of the last block ends that block.
unfoldable pub text_line : State → ℕ → List ℕ → Result State ScriptRefusal
text_line st number line = do
  let word = next_field (Some line)
  before ← if is_series (line_kind word.0) then Ok st else end_block st
  refused_as (of_line number) (kind_line before number (line_kind word.0) word.1)

-- A line that is not text ends the last block, and is refused.
unfoldable pub spoken_line : State → ℕ → List ℕ → Result State ScriptRefusal
spoken_line st number line =
    if is_utf8 line then text_line st number line
    else (do
      end_block st
      Err (scripts.BadLine number causes.NotText))

-- any line
unfoldable pub line_at : State → ℕ → List ℕ → Result State ScriptRefusal
line_at st number line = if is_silent line then Ok st else spoken_line st number line

-- lines in order, the first of which has this number
unfoldable pub lines_at : State → ℕ → List (List ℕ) → Result State ScriptRefusal
lines_at st number [] = Ok st
lines_at st number (line ∷ lines) = do
  after ← line_at st number line
  lines_at after (number + 1) lines

-- the script that a text spells, or the first refusal
unfoldable pub script_of : List ℕ → Result Script ScriptRefusal
script_of text =
    if nat_lt longest_text (length text) then Err scripts.TooLong
    else (do
      after ← lines_at (start standard_rules) 1 (lines_of text)
      finish after)
