-- The last line of a report, which tells the breach of its journal.
use Rattle.std.specs.Prelude.{ℕ, List, length, Bool, ◌==◌, nat_lt, Option, None, Some, if◌then◌else◌, codes}
use Rattle.std.specs.List.{position_or_len, before_first}
use Rattle.std.specs.Result.{result_ok}
use Rattle.std.specs.Str.{byte as code, bytes_eq}
use Rattle.base.specs.Decimal.{unsigned_of}
use Rattle.script_fields.specs.Fields.{next_field}
use Rattle.breach_finding.specs.declared.found.Breach.{Breach}
use Rattle.breach_finding.specs.declared.found.BreachRule.{BreachRule}
use Rattle.breach_finding.specs.declared.found.BreachRule.TheVariants.{Bucket, UploadTime, MarkTime, SyncTime, ViewTime, ReadTime}

-- the rule that a word of the line names
unfoldable pub rule_of : List ℕ → Option BreachRule
rule_of word =
    if bytes_eq word (codes "bucket") then Some Bucket
    else if bytes_eq word (codes "Z1") then Some UploadTime
    else if bytes_eq word (codes "Z2") then Some MarkTime
    else if bytes_eq word (codes "Z3") then Some SyncTime
    else if bytes_eq word (codes "Z4") then Some ViewTime
    else if bytes_eq word (codes "Z5") then Some ReadTime
    else None

abbrev pub is_colon : ℕ → Bool
is_colon c = c == code ":"

unfoldable pub before_colon : List ℕ → List ℕ
before_colon text = if nat_lt (position_or_len is_colon text) (length text) then before_first is_colon text else text

-- the breach, where all of it is told
unfoldable pub breach_with : Option BreachRule → Option ℕ → Option ℕ → Option ℕ → Option Breach
breach_with (Some rule) (Some entry) (Some found) (Some allowed) = Some (record { rule = rule; entry = entry; found = found; allowed = allowed })
breach_with _ _ _ _ = None

-- the breach that a line tells behind its first word, as `Z4 entry 63: 266400101 over 174600001`
unfoldable pub breach_of : Option (List ℕ) → Option Breach
breach_of left =
    let rule = next_field left in
    let entry = next_field (next_field rule.1).1 in
    let found = next_field entry.1 in
    let allowed = next_field (next_field found.1).1 in
    breach_with (rule_of rule.0) (result_ok (unsigned_of (before_colon entry.0))) (result_ok (unsigned_of found.0)) (result_ok (unsigned_of allowed.0))
