use Rattle.std.proofs.Common.{sym, ◌∙◌, arith}
use Rattle.group_planner.proofs.CutLaws.{cut_first, cut_same, cut_next}
use Rattle.group_planner.proofs.group.add.Goals as goal

pub returns-in_default : goal.returns-in_default
returns-in_default c = cut_first c.args.groups.now.items c.pop.new.self.items c.push.new.self.items c.args.next c.in_ok-new_group.field-0
    (omega (arith, c.in_default.ensures.cases.0, c.args.groups.now.ok)) (omega (arith, c.in_default.ensures.cases.1, c.pop.new.self.ok)) c.in_ok-new_group.ensures c.in_ok-push.ensures.items

pub returns-in_ok-push-2 : goal.returns-in_ok-push-2
returns-in_ok-push-2 c = cut_same c.args.groups.now.items c.push-then-has_key.new.self.items c.pop.new.self.items c.in-Some.last c.in_ok-with_member.field-0 c.args.next
    c.in-Some.ensures.items (sym c.has_key.ensures ∙ c.if-has_key.true) c.in_ok-with_member.ensures c.in_ok-push-2.ensures.items

pub returns-in_ok-push-4 : goal.returns-in_ok-push-4
returns-in_ok-push-4 c = cut_next c.args.groups.now.items c.push-else-has_key.new.self.items c.push-else-has_key-2.new.self.items c.pop.new.self.items c.in-Some.last
    c.in_ok-new_group-2.field-0 c.args.next
    c.in-Some.ensures.items (sym c.has_key.ensures ∙ c.if-has_key.false) c.in_ok-new_group-2.ensures c.in_ok-push-3.ensures.items c.in_ok-push-4.ensures.items
