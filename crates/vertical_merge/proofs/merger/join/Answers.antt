use Rattle.std.proofs.Common.{◌∙◌, sym, arith}
use Rattle.vertical_merge.proofs.Joining.{join_alone, join_same, join_apart}
use Rattle.vertical_merge.proofs.merger.join.Goals as goal

pub returns-in_default : goal.returns-in_default
returns-in_default c = join_alone _ c.pop.new.self.items _ _ c.args.next (omega (arith, c.in_default.ensures.cases.0, c.args.made.now.ok)) (omega (arith, c.in_default.ensures.cases.1, c.pop.new.self.ok)) c.in_ok-parts_of_one.ensures c.in_ok-push.ensures.items

pub returns-in_ok-push-2 : goal.returns-in_ok-push-2
returns-in_ok-push-2 c = join_same _ _ _ _ _ _ c.in-Some.ensures.items (sym c.eq.ensures ∙ c.if-eq.true) c.in_ok-with_part.ensures c.in_ok-push-2.ensures.items

pub returns-in_ok-push-4 : goal.returns-in_ok-push-4
returns-in_ok-push-4 c = join_apart _ _ _ _ _ _ _ c.in-Some.ensures.items (sym c.eq.ensures ∙ c.if-eq.false) c.in_ok-push-3.ensures.items c.in_ok-parts_of_one-2.ensures c.in_ok-push-4.ensures.items
