-- The messages of a run: what standard error is told of each failure of its report.
use Rattle.std.specs.Prelude.{◌≡◌, ℕ, ◌-◌, ◌/◌, ◌%◌, List, [], ◌∷◌, ◌++◌, length, ◌==◌, nat_lt, Option, None, Some, slice_get, if◌then◌else◌, codes}
use Rattle.base.specs.Decimal.{decimal_text}
use Rattle.base.specs.Lines.{newline}
use Rattle.ulid_core.specs.UlidText.{text_of}
use Rattle.block_keys.specs.Keys.{is_lawful_key, key_ulid}
use Rattle.block_keys.specs.KeyText.{key_text}
use Rattle.block_keys.specs.declared.key.Key.{Key}
use Rattle.world_core.specs.Journals.{entry_at}
use Rattle.world_core.specs.declared.entry.Entry.{Entry}
use Rattle.world_core.specs.declared.op.Op.{Op}
use Rattle.world_core.specs.declared.op.Op.TheVariants as ops
use Rattle.script_core.specs.declared.script.Script.{Script}
use Rattle.run_messages.specs.Actors.{entry_lines}
use Rattle.run_messages.specs.Dates.{IsDateOf}
use Rattle.run_messages.specs.Sentences.{sentence_of}
use Rattle.breach_finding.specs.declared.found.BreachRule.{BreachRule}
use Rattle.breach_finding.specs.declared.found.BreachRule.TheVariants as rules
use Rattle.run_messages.specs.declared.finding.Finding.{Finding}
use Rattle.run_messages.specs.declared.finding.Finding.TheVariants as findings
use Rattle.run_messages.specs.declared.told.Told.{Told}

-- the number of the entry that a failure names, or 0
abbrev pub entry_number : Finding → ℕ
entry_number (findings.Fault entry) = entry
entry_number (findings.Missing entry) = entry
entry_number (findings.Damaged entry) = entry
entry_number (findings.Breach breach) = breach.entry
entry_number other = 0

abbrev pub entry_of : List Entry → Finding → Option Entry
entry_of journal finding = entry_at journal (entry_number finding)

-- the line of the task whose place this is, counted from 1
abbrev pub line_of : List ℕ → ℕ → Option ℕ
line_of lines task = if task == 0 then None else slice_get lines (task - 1)

abbrev pub line_list : Option ℕ → List ℕ
line_list None = []
line_list (Some line) = line ∷ []

-- the lines by which an entry may have been made
abbrev pub lines_at : Option Script → List Entry → Option Entry → List ℕ
lines_at (Some script) journal (Some entry) = entry_lines script journal entry
lines_at _ journal _ = []

-- The lines of which a failure tells, where the lines of the script's tasks have these numbers: that of its task; and of a breach
-- those of which its entry may be one.
abbrev pub lines_for : List ℕ → Option Script → List Entry → ℕ → Finding → List ℕ
lines_for lines script journal task (findings.Breach breach) = lines_at script journal (entry_at journal breach.entry)
lines_for lines script journal task other = line_list (line_of lines task)

abbrev pub told_lines : List ℕ → Option Script → List Entry → Told → List ℕ
told_lines lines script journal told = lines_for lines script journal told.task told.finding

unfoldable pub others_words : List ℕ → List ℕ
others_words [] = []
others_words (line ∷ lines) = codes " or a later one of this gateway"

unfoldable pub line_words : List ℕ → List ℕ
line_words [] = []
line_words (line ∷ others) = codes "line " ++ decimal_text line ++ others_words others ++ codes ": "

-- the object of a key; of a segment that has no name its block
unfoldable pub key_words : Key → List ℕ
key_words key = if is_lawful_key key then key_text key else text_of (key_ulid key)

unfoldable pub op_words : Op → List ℕ
op_words (ops.Clock moment) = codes "set the clock"
op_words (ops.Put key bytes) = codes "put " ++ key_words key
op_words (ops.Get key) = codes "get " ++ key_words key
op_words (ops.GetRange key from len) = codes "get a part of " ++ key_words key
op_words (ops.Delete key) = codes "delete " ++ key_words key
op_words (ops.RootPage after limit) = codes "list the blocks"
op_words (ops.BlockPage ulid after limit) = codes "list the objects of " ++ text_of ulid

-- what was done at an entry, and at which date
unfoldable pub entry_words : Option Entry → List ℕ → List ℕ
entry_words None date = []
entry_words (Some entry) date = codes "Entry " ++ decimal_text entry.seq ++ codes ", at " ++ date ++ codes ": " ++ op_words entry.op ++ codes ". "

unfoldable pub span_words : ℕ → List ℕ
span_words ms = decimal_text ms ++ codes " ms (" ++ decimal_text (ms / 3_600_000) ++ codes " h " ++ decimal_text (ms / 60_000 % 60) ++ codes " min)"

abbrev pub passed_by : BreachRule → ℕ → List ℕ
passed_by rules.Bucket ms = []
passed_by of_time ms = codes " That is passed by " ++ span_words ms ++ codes "."

-- by how much a rule of time was broken
unfoldable pub excess_words : Finding → List ℕ
excess_words (findings.Breach breach) = passed_by breach.rule (breach.found - breach.allowed)
excess_words other = []

-- the line of the report, with the line of its task before it
unfoldable pub front_words : List ℕ → List ℕ → List ℕ
front_words lines told = line_words lines ++ told ++ codes ". "

unfoldable pub meaning_words : Finding → List ℕ
meaning_words finding = sentence_of finding ++ excess_words finding ++ newline

-- the line of the report, what was done and when, and what that means
unfoldable pub message_with : List ℕ → Option Entry → Told → List ℕ → List ℕ
message_with lines entry told date = front_words lines told.line ++ entry_words entry date ++ meaning_words told.finding

abbrev pub message_of : List ℕ → Option Script → List Entry → Told → List ℕ → List ℕ
message_of lines script journal told date = message_with (told_lines lines script journal told) (entry_of journal told.finding) told date

abbrev pub IsDateAt : Option Entry → List ℕ → Type 0
IsDateAt None date = date ≡ []
IsDateAt (Some entry) date = IsDateOf date entry.moment.ms

-- the date is that of the entry which the failure names
abbrev pub IsDated : List Entry → Told → List ℕ → Type 0
IsDated journal told date = IsDateAt (entry_of journal told.finding) date

-- the messages of failures, one after another
abbrev pub AreMessages : List ℕ → Option Script → List Entry → List Told → List ℕ → Type 0
AreMessages lines script journal [] text = text ≡ []
AreMessages lines script journal (told ∷ more) text =
    (date : List ℕ) × (rest : List ℕ) × IsDated journal told date × AreMessages lines script journal more rest
    × (text ≡ message_of lines script journal told date ++ rest)

-- how many failures are told at most
abbrev pub most_told : ℕ
most_told = 20

unfoldable pub count_words : ℕ → List ℕ
count_words count = codes "Failures not told: " ++ decimal_text count ++ (codes "." ++ newline)

-- how many are not
unfoldable pub more_words : List Told → List ℕ
more_words told = if nat_lt most_told (length told) then count_words (length told - most_told) else []
