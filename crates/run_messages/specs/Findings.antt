-- What a line of a report says went wrong.
use Rattle.std.specs.Prelude.{ℕ, List, Bool, ◌&&◌, ◌||◌, Option, None, Some, option_map, Result, Ok, Err, if◌then◌else◌, codes}
use Rattle.std.specs.Str.{bytes_eq}
use Rattle.base.specs.Decimal.{unsigned_of}
use Rattle.base.specs.declared.number.NumberRefusal.{NumberRefusal}
use Rattle.script_fields.specs.Fields.{next_field}
use Rattle.run_messages.specs.Breaches.{breach_of}
use Rattle.run_messages.specs.ScriptFindings.{script_finding}
use Rattle.run_messages.specs.declared.finding.Finding.{Finding}
use Rattle.run_messages.specs.declared.finding.Finding.TheVariants.{Fault, Missing, Damaged, Refused, NoView, TooMany, TooLarge, Script, Breach}

-- the failure with this number that a word tells
unfoldable pub numbered_finding : List ℕ → ℕ → Option Finding
numbered_finding word number =
    if bytes_eq word (codes "fault") then Some (Fault number)
    else if bytes_eq word (codes "missing") then Some (Missing number)
    else if bytes_eq word (codes "damaged") then Some (Damaged number)
    else if bytes_eq word (codes "refused") then Some (Refused number)
    else None

abbrev pub finding_read : List ℕ → Result ℕ NumberRefusal → Option Finding
finding_read word (Ok number) = numbered_finding word number
finding_read word (Err refusal) = None

-- the failure that two words tell: `no view`, `too many`, `too large`, or a word and a number
unfoldable pub finding_of_words : List ℕ → List ℕ → Option Finding
finding_of_words word next =
    if bytes_eq word (codes "no") && bytes_eq next (codes "view") then Some NoView
    else if bytes_eq word (codes "too") then (if bytes_eq next (codes "large") then Some TooLarge else Some TooMany)
    else finding_read word (unsigned_of next)

-- What a line says behind the name of its task, or of a checked block: `query LOW HIGH: NAME` has three words before it,
-- `compact:` and `clean:` have none.
unfoldable pub behind_name : List ℕ → Option (List ℕ) → Option (List ℕ)
behind_name word left =
    if bytes_eq word (codes "compact:") || bytes_eq word (codes "clean:") then left
    else if bytes_eq word (codes "query") then (next_field (next_field (next_field left).1).1).1
    else if bytes_eq word (codes "upload") || bytes_eq word (codes "sync") || bytes_eq word (codes "check") then (next_field left).1
    else None

-- the failure of which a line tells
unfoldable pub finding_of : List ℕ → Option Finding
finding_of line =
    let word = next_field (Some line) in
    let end = next_field (behind_name word.0 word.1) in
    if bytes_eq word.0 (codes "breach") then option_map Breach (breach_of word.1)
    else if bytes_eq word.0 (codes "script") then option_map Script (script_finding word.1)
    else finding_of_words end.0 (next_field end.1).0

-- a report has one such line for each task, in their order
unfoldable pub is_task : List ℕ → Bool
is_task line =
    let word = (next_field (Some line)).0 in
    bytes_eq word (codes "upload") || bytes_eq word (codes "sync") || bytes_eq word (codes "compact:") || bytes_eq word (codes "clean:") || bytes_eq word (codes "query")
