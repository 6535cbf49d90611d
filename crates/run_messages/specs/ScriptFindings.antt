-- Why a script is refused, as the report words it, and what that means.
use Rattle.std.specs.Prelude.{ℕ, List, [], ◌==◌, ◌&&◌, Option, None, Some, Result, Ok, Err, if◌then◌else◌, codes}
use Rattle.std.specs.Str.{bytes_eq}
use Rattle.base.specs.Decimal.{unsigned_of}
use Rattle.base.specs.declared.number.NumberRefusal.{NumberRefusal}
use Rattle.script_fields.specs.Fields.{next_field}
use Rattle.run_messages.specs.declared.script_finding.ScriptFinding.{ScriptFinding}
use Rattle.run_messages.specs.declared.script_finding.ScriptFinding.TheVariants.{BadLine, TooLong, FallingMoment, TwoCompactors, UnknownBlock, BlockChanged, NeverSynced, TooMany, BadRules}

abbrev pub cause_read : Result ℕ NumberRefusal → Option ScriptFinding
cause_read (Ok number) = Some (BadLine number)
cause_read (Err refusal) = None

abbrev pub numbered_cause : List ℕ → Option ScriptFinding
numbered_cause number = cause_read (unsigned_of number)

-- the cause that begins with this word
unfoldable pub worded_cause : List ℕ → Option ScriptFinding
worded_cause word =
    if bytes_eq word (codes "bad") then Some BadRules
    else if bytes_eq word (codes "falling") then Some FallingMoment
    else if bytes_eq word (codes "two") then Some TwoCompactors
    else if bytes_eq word (codes "unknown") then Some UnknownBlock
    else if bytes_eq word (codes "block") then Some BlockChanged
    else if bytes_eq word (codes "never") then Some NeverSynced
    else if bytes_eq word (codes "too") then Some TooMany
    else None

-- why a line says that the script is refused, behind its first word, as `refused: line 6: bad line 2`
unfoldable pub script_finding : Option (List ℕ) → Option ScriptFinding
script_finding left =
    let first = next_field (next_field left).1 in
    let word = next_field (next_field first.1).1 in
    let next = next_field word.1 in
    if bytes_eq first.0 (codes "too") then Some TooLong
    else if bytes_eq word.0 (codes "bad") && bytes_eq next.0 (codes "line") then numbered_cause (next_field next.1).0
    else worded_cause word.0

-- what is wrong with a bad line, by the number of the cause
unfoldable pub cause_words : ℕ → List ℕ
cause_words cause =
    if cause == 1 then codes "It is not UTF-8."
    else if cause == 2 then codes "Its word, or the name of its rule, is none that scripts have. (A file may begin with a byte order mark, which is none.)"
    else if cause == 3 then codes "A field is missing, empty or one too many, or there is a space too many."
    else if cause == 4 then codes "A number is not decimal, has a needless zero in front, or is out of its range. Dates stand behind at alone."
    else if cause == 5 then codes "The moment is none: milliseconds since 1970, or a date as 2024-10-04T00:00:00Z."
    else if cause == 6 then codes "The span is none: digits and ms, s, m or h, and no sum of these. There is no d: 30 days are 720h. A tick is at most 24h."
    else if cause == 7 then codes "The ULID is none: 26 characters of 0 to 9 and A to Z, without I, L, O and U."
    else if cause == 8 then codes "The name is none: a letter or _, and then letters, digits or _. (A line that ends with a carriage return has one more character.)"
    else if cause == 9 then codes "The label set is none: it is written as {a=\"x\",b=\"y\"}, without spaces, without an empty value, and no name twice."
    else if cause == 10 then codes "A sample is not a time, a colon and 16 lower-case hexadecimal digits."
    else if cause == 11 then codes "A sample's time is not above that of the sample before it."
    else if cause == 12 then codes "A sample's time is before the block's MIN, or not before its MAX."
    else if cause == 13 then codes "The block has a series with these labels already."
    else if cause == 14 then codes "The block has no series line."
    else if cause == 15 then codes "A series line has to stand behind a block line, or behind another series line."
    else if cause == 16 then codes "A task has to stand behind an at line."
    else if cause == 17 then codes "Rules, gateways and blocks have to stand before the first at line."
    else if cause == 18 then codes "MIN is not below MAX, or LOW is above HIGH."
    else if cause == 19 then codes "The ULID is one of those that are kept for compacted blocks."
    else if cause == 20 then codes "No line above declares this gateway."
    else if cause == 21 then codes "A line above declares this gateway already."
    else if cause == 22 then codes "The selector is none: a name, or matchers as {a=\"x\",b=~\"y.*\"}, or a name with matchers behind it."
    else if cause == 23 then codes "A pattern of the selector is none, or nests too deep."
    else if cause == 24 then codes "The selector names a replica label, which answers leave out."
    else if cause == 25 then codes "A pattern of the selector is too large."
    else []

abbrev pub script_words : ScriptFinding → List ℕ
script_words (BadLine cause) = cause_words cause
script_words TooLong = codes "A script has at most 67,108,864 bytes."
script_words FallingMoment = codes "Its phase would begin before the one above it."
script_words TwoCompactors = codes "Its phase has a compaction already."
script_words UnknownBlock = codes "No line above declares its block."
script_words BlockChanged = codes "A line above declares its ULID already."
script_words NeverSynced = codes "Some gateway has no sync line above it. Each gateway needs one before the first query."
script_words TooMany = codes "It passes a limit: 16 gateways, 4,096 blocks, 65,536 tasks, 64 workers in a phase."
script_words BadRules = codes "What is wrong stands in the rule lines above it: the upload limit may pass neither the partial delay nor the delete delay less a second, nor the ignore delay the delete delay."
