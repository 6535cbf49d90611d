use Rattle.std.proofs.Common.{[], ◌∷◌, ◌*◌, length, ap}
use Rattle.world_core.specs.Operations.{entry_of}
use Rattle.compactor.specs.contracts.marks.MarksMachine.TheImpl.{ghosts as marks}
use Rattle.compactor.specs.CompactStates.{most_asked, after_marks, level_of, asked_compact, count_of as count_of_all}
use Rattle.compactor.proofs.CompactCounts.{same_level, level_falls, falls_at}
use Rattle.compactor.proofs.CompactSteps.{part_asks, part_ends, to_state}
use Rattle.compactor.proofs.compact.Compact.step_marks.Goals as goal

pub returns-in-Do-clause-goes_on : goal.returns-in-Do-clause-goes_on
returns-in-Do-clause-goes_on c = λ seat op asks.
    part_asks marks.may marks.asked c.args.marks c.step.new.self (entry_of seat op c.args.seen ∷ []) (λ own came. after_marks c.args.reason c.args.self.now came)
    _ c.in-Do.op _ c.in-Do.is (ap asked_compact c.wait_in.ensures) (to_state _ _ c.wait_in.ensures) (c.in_ok-act.ensures.goes_on seat op asks)

pub returns-in-Do-clause-falls : goal.returns-in-Do-clause-falls
returns-in-Do-clause-falls c = falls_at (most_asked * level_of c.args.reason (length c.args.self.now.groups.items)) (marks.measure c.args.marks) (marks.measure c.step.new.self) _ _ _ (ap count_of_all c.wait_in.ensures) c.in-Do.is c.in_ok-act.ensures.falls

pub returns-in-Done-clause-goes_on : goal.returns-in-Done-clause-goes_on
returns-in-Done-clause-goes_on c = λ seat op asks.
    part_ends marks.may marks.asked c.args.marks c.step.new.self (entry_of seat op c.args.seen ∷ []) (λ own came. after_marks c.args.reason c.args.self.now came)
    _ c.in-Done.end c.after_marks.result c.after_marks.new.self c.in-Done.is (c.in_ok-act.ensures.goes_on seat op asks) c.after_marks.ensures.leads

pub returns-in-Done-clause-falls : goal.returns-in-Done-clause-falls
returns-in-Done-clause-falls c = level_falls (level_of c.args.reason (length c.args.self.now.groups.items)) (level_of c.args.reason (length c.args.self.now.groups.items)) (marks.measure c.args.marks) c.after_marks.result _ (same_level _) c.after_marks.ensures.falls

pub step-requires : goal.step-requires
step-requires c = c.requires.answer
