use Rattle.std.proofs.Common.{refl, ◌+◌, length, arith, ap}
use Rattle.compactor.specs.CompactStates.{after_marks, level_of, asked_compact, count_of as count_of_all}
use Rattle.compactor.specs.contracts.marks.MarksMachine.TheImpl.{ghosts as marks}
use Rattle.compactor.proofs.Beginnings.{marks_ask, marks_end}
use Rattle.compactor.proofs.MarkRooms.{marks_few}
use Rattle.compactor.proofs.CompactCounts.{under_at}
use Rattle.world_core.proofs.LeadSteps.{falls_more}
use Rattle.compactor.proofs.CompactSteps.{to_state}
use Rattle.compactor.proofs.compact.Compact.mark.Goals as goal

pub returns-in-Do-clause-leads : goal.returns-in-Do-clause-leads
returns-in-Do-clause-leads c =
    marks_ask c.start-marks.result c.first.new.self c.args.reason c.args.ulids.items (after_marks c.args.reason c.args.self.now) (λ n. refl) c.start-marks.ensures.run
    _ c.in-Do.op _ c.in-Do.is (ap asked_compact c.wait_in.ensures) (to_state _ _ c.wait_in.ensures) c.in_ok-act.ensures

pub returns-in-Do-clause-falls : goal.returns-in-Do-clause-falls
returns-in-Do-clause-falls c =
    under_at (level_of c.args.reason (length c.args.self.now.groups.items)) (level_of c.args.reason (length c.args.self.now.groups.items) + 1) (marks.measure c.first.new.self) _ (ap count_of_all c.wait_in.ensures) (omega arith) (marks_few c.first.new.self)

pub returns-in-Done-clause-leads : goal.returns-in-Done-clause-leads
returns-in-Done-clause-leads c =
    marks_end c.start-marks.result c.first.new.self c.args.reason c.args.ulids.items (after_marks c.args.reason c.args.self.now) (λ n. refl) c.start-marks.ensures.run
    _ c.in-Done.end c.after_marks.result c.after_marks.new.self c.in-Done.is c.in_ok-act.ensures c.after_marks.ensures.leads

pub returns-in-Done-clause-falls : goal.returns-in-Done-clause-falls
returns-in-Done-clause-falls c = falls_more _ _ c.after_marks.result _ (omega arith) c.after_marks.ensures.falls
