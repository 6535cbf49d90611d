-- The last line of a report, which tells the breach of the journal.
use Rattle.std.specs.Prelude.{ℕ, List, [], ◌++◌, codes, Option, Some, None}
use Rattle.base.specs.Decimal.{decimal_text}
use Rattle.base.specs.Lines.{newline}
use Rattle.world_core.specs.declared.entry.Entry.{Entry}
use Rattle.script_core.specs.declared.script.Script.{Script}
use Rattle.script_running.specs.lifecycle_core.specs.Setting.{FromShelf}
use Rattle.breach_finding.specs.Walks.{IsAnswer, setting_with}
use Rattle.breach_finding.specs.declared.found.Breach.{Breach}
use Rattle.breach_finding.specs.declared.found.BreachRule.{BreachRule}
use Rattle.breach_finding.specs.declared.found.BreachRule.TheVariants as found

-- the rules of time are numbered in the order in which they are asked of an entry
abbrev pub rule_word : BreachRule → List ℕ
rule_word found.Bucket = codes "bucket"
rule_word found.UploadTime = codes "Z1"
rule_word found.MarkTime = codes "Z2"
rule_word found.SyncTime = codes "Z3"
rule_word found.ViewTime = codes "Z4"
rule_word found.ReadTime = codes "Z5"

-- The bucket shows one byte and not the other; the other rules tell a number that is over another one.
abbrev pub between : BreachRule → List ℕ
between found.Bucket = codes " not "
between other = codes " over "

unfoldable pub breach_line : Breach → List ℕ
breach_line breach =
    codes "breach " ++ rule_word breach.rule ++ codes " entry " ++ decimal_text breach.entry ++ codes ": "
    ++ decimal_text breach.found ++ between breach.rule ++ decimal_text breach.allowed ++ newline

-- nothing where the journal has none
abbrev pub breach_text : Option Breach → List ℕ
breach_text None = []
breach_text (Some breach) = breach_line breach

-- This is the breach of a journal of the script, whatever its shelf holds; there is none where no rule refuses an entry.
abbrev pub HasBreach : Script → List Entry → Option Breach → Type 0
HasBreach script journal breach = (shelf : ℕ → FromShelf) → IsAnswer (setting_with script shelf) journal breach
