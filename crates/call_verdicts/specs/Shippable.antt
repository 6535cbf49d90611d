-- Scripts all of whose blocks are shipped, and runs that meet no limit.
use Rattle.std.specs.Prelude.{◌≡◌, ℕ, List, Some}
use Rattle.compactor.specs.declared.compact_end.CompactEnd.TheVariants as compacting
use Rattle.cleaner.specs.declared.clean.CleanEnd.TheVariants as cleaning
use Rattle.script_core.specs.declared.block.Block.{Block}
use Rattle.report_lines.specs.lifecycle_core.specs.Held.{declared}
use Rattle.report_lines.specs.lifecycle_core.specs.Setting.{Setting}
use Rattle.report_lines.specs.lifecycle_core.specs.Causes.{SomeCame}
use Rattle.report_lines.specs.lifecycle_core.specs.Shipped.{IsRefused}
use Rattle.report_lines.specs.lifecycle_core.specs.Tasks.{End, cleaned, compacted}

-- no block that the script declares is refused
abbrev pub RefusesNone : Setting → Type 0
RefusesNone setting = (ulid : ℕ) (block : Block) (cause : ℕ) → declared setting.script ulid ≡ Some block → ¬ IsRefused setting block cause

-- the index of a compacted block would be too long, or a cleaning found a million names
abbrev pub IsTooGreat : End → Type 0
IsTooGreat (compacted compacting.TooLarge) = Unit {0}
IsTooGreat (cleaned cleaning.TooMany) = Unit {0}
IsTooGreat other = ⊥

-- no task came to such an end
abbrev pub StaysWithin : List (List (List End)) → Type 0
StaysWithin ends = (end : End) → SomeCame ends end → ¬ IsTooGreat end
