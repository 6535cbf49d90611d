use Rattle.std.proofs.Common.{◌≡◌, length}
use Rattle.script_fields.specs.Fields.{lines_of}
use Rattle.run_messages.specs.RuleConflicts.{rules_by}
use Rattle.run_messages.proofs.rule_conflicts.read_rules.Given as goal

-- what the lines that are left set, is what all set
abbrev pub invariant-loop-left : goal.invariant-loop-left
invariant-loop-left l = rules_by l.rules (lines_of l.left) ≡ rules_by l.fn.rules (lines_of l.script)

abbrev pub decreases-loop-left : goal.decreases-loop-left
decreases-loop-left l = length l.left
