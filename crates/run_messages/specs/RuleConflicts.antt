-- Which two rules of a script disagree.
use Rattle.std.specs.Prelude.{ℕ, ◌+◌, nat_lt, List, [], ◌∷◌, ◌++◌, Bool, true, false, Option, Some, Result, Ok, Err, if◌then◌else◌, codes}
use Rattle.base.specs.Decimal.{decimal_text}
use Rattle.base.specs.Lines.{newline}
use Rattle.moment_core.specs.Limits.{one_second}
use Rattle.moment_core.specs.declared.rules.Rules.{Rules}
use Rattle.script_fields.specs.Fields.{next_field, rule_kind}
use Rattle.script_fields.specs.Values.{set_rule}
use Rattle.script_fields.specs.declared.cause.LineCause.{LineCause}
use Rattle.script_fields.specs.declared.line_kind.LineKind.{LineKind}
use Rattle.script_fields.specs.declared.line_kind.LineKind.TheVariants as kinds
use Rattle.script_fields.specs.declared.rule_kind.RuleKind.{RuleKind}
use Rattle.script_fields.specs.declared.rule_kind.RuleKind.TheVariants.{Valued}
use Rattle.run_messages.specs.ScriptLines.{kind_of}
use Rattle.run_messages.specs.Told.{spoken}

-- a value that is none changes nothing
abbrev pub set_as_read : Rules → Result Rules LineCause → Rules
set_as_read rules (Ok set) = set
set_as_read rules (Err cause) = rules

-- rules that have no one value do not count
abbrev pub set_named : Rules → Option RuleKind → List ℕ → Rules
set_named rules (Some (Valued name)) value = set_as_read rules (set_rule name value rules)
set_named rules other value = rules

-- the rules with what a rule line says behind its word
unfoldable pub with_rule : Rules → Option (List ℕ) → Rules
with_rule rules left =
    let name = next_field left in
    set_named rules (rule_kind name.0) (next_field name.1).0

abbrev pub is_rule : Option LineKind → Bool
is_rule (Some kinds.Rule) = true
is_rule _ = false

abbrev pub is_phase : Option LineKind → Bool
is_phase (Some kinds.At) = true
is_phase _ = false

unfoldable pub with_line : Rules → List ℕ → Rules
with_line rules line = if is_rule (kind_of line) then with_rule rules (next_field (spoken line)).1 else rules

-- the rules that lines set before the first phase
unfoldable pub rules_by : Rules → List (List ℕ) → Rules
rules_by rules [] = rules
rules_by rules (line ∷ lines) = if is_phase (kind_of line) then rules else rules_by (with_line rules line) lines

unfoldable pub pair_words : List ℕ → ℕ → List ℕ → ℕ → List ℕ
pair_words first ms second allowed =
    codes "The rule " ++ first ++ codes " is " ++ decimal_text ms ++ codes " ms, and " ++ second ++ codes " is " ++ decimal_text allowed ++ codes " ms." ++ newline

-- two of the rules that disagree, in words; nothing where all agree
unfoldable pub conflict_words : Rules → List ℕ
conflict_words rules =
    if nat_lt rules.partial.ms rules.upload.ms then pair_words (codes "upload-limit") rules.upload.ms (codes "partial-delay") rules.partial.ms
    else if nat_lt rules.delete.ms (rules.upload.ms + one_second) then pair_words (codes "upload-limit") rules.upload.ms (codes "delete-delay") rules.delete.ms
    else if nat_lt rules.delete.ms rules.ignore.ms then pair_words (codes "ignore-delay") rules.ignore.ms (codes "delete-delay") rules.delete.ms
    else []
