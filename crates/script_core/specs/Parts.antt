-- A script that comes part by part.
use Rattle.std.specs.Prelude.{◌≡◌, ◌≢◌, ℕ, ◌+◌, ◌-◌, ◌*◌, ◌<◌, ◌≤◌, ◌^◌, Bool, ◌&&◌, ◌==◌, nat_le, List, [], ◌∷◌, ◌++◌, length, not, All, IsTrue, Result, Err, codes}
use Rattle.std.specs.List.{flat_map, list_all}
use Rattle.std.specs.List.Sorted.{IsStrictlySortedBy}
use Rattle.std.specs.Ordering.{int_cmp}
use Rattle.std.specs.Str.{is_utf8}
use Rattle.base.specs.Lines.{line_feed, newline}
use Rattle.label_sets.specs.SampleText.{spaced_sample_text}
use Rattle.label_sets.specs.SetText.{IsSetText}
use Rattle.label_sets.specs.Times.{times_of}
use Rattle.label_sets.specs.declared.label.Label.{Label}
use Rattle.label_sets.specs.declared.sample.Sample.{Sample}
use Rattle.moment_core.specs.StandardRules.{standard_rules}
use Rattle.base.specs.Reading.{◌>>◌, unless}
use Rattle.script_fields.specs.declared.cause.LineCause.TheVariants.{BadNumber, BadShape, FallingTimes}
use Rattle.script_fields.specs.declared.line_refusal.LineRefusal.{LineRefusal}
use Rattle.script_fields.specs.declared.line_refusal.LineRefusal.TheVariants.{Bad}
use Rattle.script_fields.specs.Fields.{lines_of, is_newline}
use Rattle.script_core.specs.GivenUp.{AreLinesGivenUp}
use Rattle.script_core.specs.Lines.{times_ascend}
use Rattle.script_fields.specs.Limits.{longest_text}
use Rattle.script_core.specs.Reading.{lines_at}
use Rattle.script_core.specs.Spelling.{IsNear}
use Rattle.script_core.specs.State.{State, start}
use Rattle.script_fields.specs.Values.{is_time}
use Rattle.script_core.specs.View.{state_of}
use Rattle.script_core.specs.declared.part_reader.PartReader.{PartReader}
use Rattle.script_fields.specs.declared.script_refusal.ScriptRefusal.{ScriptRefusal}
use Rattle.script_fields.specs.declared.script_refusal.ScriptRefusal.TheVariants.{TooLong}

-- A text of so many lines leaves this state: whatever follows it, what is read of the whole is what is read from there.
abbrev pub Leaves : List ℕ → ℕ → State → Type 0
Leaves text count st =
    (more : List ℕ) → lines_at (start standard_rules) 1 (lines_of (text ++ more)) ≡ lines_at st (count + 1) (lines_of more)

-- What was read so far is this text. A reader counts at most twice its bytes.
pub record HasRead (reader : PartReader) (text : List ℕ) : Type 0 where
  pub leaves : Leaves text reader.lines (state_of reader.draft)
  pub size : length text ≤ reader.bytes
  pub near : reader.bytes ≤ 2 * length text

-- After the one reader has read this text too, it is as the other.
abbrev pub Reads : PartReader → PartReader → List ℕ → Type 0
Reads before after text = (read : List ℕ) → HasRead before read → HasRead after (read ++ text)

-- the text of a series line but for its newline: `series LABELS TIME:PATTERN ..`
unfoldable pub series_front : List ℕ → List Sample → List ℕ
series_front labels samples = codes "series " ++ labels ++ flat_map spaced_sample_text samples

-- and with it
unfoldable pub series_text : List ℕ → List Sample → List ℕ
series_text labels samples = series_front labels samples ++ newline

-- a text of one line, without its newline
abbrev pub IsOneLine : List ℕ → Type 0
IsOneLine line = IsTrue (list_all (λ byte. not (is_newline byte)) line)

-- a sample that a series line can have
pub record HasField (sample : Sample) : Type 0 where
  pub near : IsNear sample.time
  pub pattern : sample.pattern < 2 ^ 64

-- the same as a test
abbrev pub has_field : Sample → Bool
has_field sample = is_time sample.time && nat_le sample.pattern (2 ^ 64 - 1)

-- whether a series line can have these samples
abbrev pub test_samples : List Sample → Result (Unit {0}) LineRefusal
test_samples samples = do
  unless (not (length samples == 0)) (Bad BadShape)
  unless (list_all has_field samples) (Bad BadNumber)
  unless (times_ascend samples) (Bad FallingTimes)

-- labels and samples of which there is a series line, whether or not it fits the lines before it
pub record AreSeriesParts (labels : List ℕ) (set : List Label) (samples : List Sample) : Type 0 where
  pub is_set : IsSetText labels set
  pub utf8 : IsTrue (is_utf8 labels)
  pub one_line : IsOneLine labels
  pub some : samples ≢ []
  pub fields : All HasField samples
  pub ascend : IsStrictlySortedBy int_cmp (times_of samples)

-- a text of whole lines: its last byte is a newline, if it has one
abbrev pub IsEnded : List ℕ → Type 0
IsEnded text = (front : List ℕ) (byte : ℕ) → text ≡ front ++ byte ∷ [] → byte ≡ line_feed

-- ---- refusals

-- Whatever was read before the text, and whatever follows it, the lines are refused so.
abbrev pub AreRefused : PartReader → List ℕ → ScriptRefusal → Type 0
AreRefused before text refusal =
    (read more : List ℕ) → HasRead before read → lines_at (start standard_rules) 1 (lines_of (read ++ (text ++ more))) ≡ Err refusal

-- Lines behind what was read are given up: for want of memory, or because one of them is a query by a lawful pattern, behind
-- lines that are read.
abbrev pub AreNextGivenUp : PartReader → List ℕ → ScriptRefusal → Type 0
AreNextGivenUp before text refusal = AreLinesGivenUp (state_of before.draft) (before.lines + 1) (lines_of text) refusal

-- Why a reader refuses a text that it does not give up.
pub data IsPartRefused (before : PartReader) (text : List ℕ) (refusal : ScriptRefusal) : Type 0 where
  -- With it the text has more than half of the bytes that one may have.
  is_long : refusal ≡ TooLong → ((read : List ℕ) → HasRead before read → longest_text < 2 * length (read ++ text)) → IsPartRefused before text refusal
  -- No script goes on so.
  no_script : AreRefused before text refusal → IsPartRefused before text refusal
