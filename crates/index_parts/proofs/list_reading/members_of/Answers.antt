use Rattle.std.proofs.Common.{rules, refl, ap, map, ◌∙◌}
use Rattle.std.proofs.lemmas.List.{map_push}
use Rattle.base.proofs.Counted.{loop_start, loop_step}
use Rattle.index_parts.specs.ListReading.{turns_at}
use Rattle.index_parts.proofs.Loops.{turns_exit, turns_end}
use Rattle.index_parts.proofs.list_reading.members_of.Goals as goal

pub loop-init : goal.loop-init
loop-init g c = search (rules, loop_start)

pub loop-preserved : goal.loop-preserved
loop-preserved g c = loop_step g.M.Member.reads _ _ _ _ _ _ _ _ refl (ap (map g.M.Member.said) c.in_ok-push.ensures.items ∙ map_push g.M.Member.said _ _) c.loop.invariant c.in_ok-member.ensures

pub returns-in_err-member : goal.returns-in_err-member
unfolding turns_at
returns-in_err-member g c = turns_exit _ _ _ _ _ _ _ _ _ _ c.loop.invariant c.from_residual-in_err-member.ensures.1 c.in_err-member.ensures c.loop-test.true

pub returns : goal.returns
unfolding turns_at
returns g c = turns_end _ _ _ _ _ _ c.loop.invariant c.loop-test.false c.loop.auto.counter-end
