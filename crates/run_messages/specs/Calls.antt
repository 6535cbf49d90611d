-- What standard error is told of the failures of a call.
use Rattle.std.specs.Prelude.{◌≡◌, ◌⊎◌, ℕ, List, [], ◌∷◌, ◌++◌, take, Bool, true, false, Option, None, Some, if◌then◌else◌}
use Rattle.std.specs.List.{list_any}
use Rattle.script_fields.specs.Fields.{lines_of}
use Rattle.moment_core.specs.StandardRules.{standard_rules}
use Rattle.script_core.specs.GivenUp.{IsGivenUp}
use Rattle.script_core.specs.Spelling.{Spells}
use Rattle.script_core.specs.declared.script.Script.{Script}
use Rattle.script_fields.specs.declared.script_refusal.ScriptRefusal.{ScriptRefusal}
use Rattle.world_core.specs.declared.entry.Entry.{Entry}
use Rattle.run_messages.specs.Messages.{AreMessages, more_words, most_told}
use Rattle.run_messages.specs.RuleConflicts.{conflict_words, rules_by}
use Rattle.run_messages.specs.ScriptLines.{task_lines}
use Rattle.run_messages.specs.declared.finding.Finding.{Finding}
use Rattle.run_messages.specs.declared.finding.Finding.TheVariants as findings
use Rattle.run_messages.specs.declared.script_finding.ScriptFinding.TheVariants.{BadRules}
use Rattle.run_messages.specs.declared.told.Told.{Told}

abbrev pub is_of_rules : Finding → Bool
is_of_rules (findings.Script BadRules) = true
is_of_rules _ = false

-- the first failure is that the rules of the script disagree
abbrev pub tells_of_rules : List Told → Bool
tells_of_rules [] = false
tells_of_rules (told ∷ more) = is_of_rules told.finding

-- two rules of the script that disagree
abbrev pub rules_words : List Told → List ℕ → List ℕ
rules_words told script = if tells_of_rules told then conflict_words (rules_by standard_rules (lines_of script)) else []

abbrev pub is_breach : Finding → Bool
is_breach (findings.Breach breach) = true
is_breach _ = false

abbrev pub tells_breach : List Told → Bool
tells_breach told = list_any (λ one. is_breach one.finding) told

-- The script in which a breach's line is looked up: the one that the text spells. There is none where no failure is a breach, or where the
-- text was not read.
abbrev pub IsScriptFor : List Told → List ℕ → Option Script → Type 0
IsScriptFor told text (Some script) = Spells text script
IsScriptFor told text None =
    (tells_breach told ≡ false) ⊎ ((refusal : ScriptRefusal) × ((script : Script) → Spells text script → IsGivenUp text refusal))

-- The messages on failures, of a call over this script and with this journal: the first ones, how many more there are, and the two
-- rules.
abbrev pub AreCallMessages : List Told → List ℕ → List Entry → List ℕ → Type 0
AreCallMessages told script journal messages =
    (read : Option Script) × IsScriptFor (take most_told told) script read
    × (text : List ℕ) × AreMessages (task_lines 1 (lines_of script)) read journal (take most_told told) text
    × (messages ≡ text ++ more_words told ++ rules_words told script)
