use Rattle.std.proofs.Common.{sym, ap, ◌∙◌}
use Rattle.run_messages.specs.RuleConflicts.{is_phase}
use Rattle.run_messages.proofs.RuleLines.{rules_go_on, rules_stop, rules_whole}
use Rattle.run_messages.proofs.rule_conflicts.read_rules.Goals as goal

pub returns-then-is_phase : goal.returns-then-is_phase
returns-then-is_phase c =
    rules_stop c.loop-left.rules c.loop-left.left.now c.cut_line.result.0.now c.cut_line.result.1.now c.cut_line.ensures.line c.cut_line.ensures.rest _
    (ap is_phase (sym c.kind_of.ensures) ∙ sym c.is_phase.ensures ∙ c.if-is_phase.true) c.loop-left.invariant

pub loop-left-preserved : goal.loop-left-preserved
loop-left-preserved c =
    rules_go_on c.loop-left.rules c.loop-left.left.now c.cut_line.result.0.now c.cut_line.result.1.now c.cut_line.ensures.line c.cut_line.ensures.rest c.read_line.new.rules _
    (ap is_phase (sym c.kind_of.ensures) ∙ sym c.is_phase.ensures ∙ c.if-is_phase.false) c.read_line.ensures c.loop-left.invariant

pub returns : goal.returns
returns c = rules_whole c.loop-left.rules c.loop-left.left.now _ (sym c.loop-left-test.ensures) c.loop-left.invariant
