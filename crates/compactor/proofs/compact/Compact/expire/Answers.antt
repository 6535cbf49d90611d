use Rattle.std.proofs.Common.{Ok, refl, arith, ap}
use Rattle.world_core.specs.declared.act.Act.TheVariants as act
use Rattle.compactor.specs.CompactStates.{after_marks, asked_compact, count_of as count_of_all}
use Rattle.compactor.specs.contracts.marks.MarksMachine.TheImpl.{ghosts as marks}
use Rattle.compactor.specs.declared.reason.Reason.TheVariants.{Expired}
use Rattle.compactor.proofs.Beginnings.{marks_ask, marks_end}
use Rattle.compactor.proofs.MarkRooms.{marks_few}
use Rattle.compactor.proofs.CompactCounts.{under_at}
use Rattle.compactor.proofs.CompactSteps.{to_state}
use Rattle.compactor.proofs.compact.Compact.expire.Goals as goal

pub returns-in-Do-clause-leads : goal.returns-in-Do-clause-leads
returns-in-Do-clause-leads c =
    marks_ask c.start-marks.result c.first.new.self Expired c.args.self.now.expired.items (after_marks Expired c.args.self.now) (λ n. refl) (rw c.replace-expired.ensures.value at c.start-marks.ensures.run)
    _ c.in-Do.op _ c.in-Do.is (ap asked_compact c.wait_in.ensures) (to_state _ _ c.wait_in.ensures) c.in_ok-act.ensures

pub returns-in-Do-clause-falls : goal.returns-in-Do-clause-falls
returns-in-Do-clause-falls c = under_at 1 2 (marks.measure c.first.new.self) _ (ap count_of_all c.wait_in.ensures) (omega arith) (marks_few c.first.new.self)

pub returns-in-Done-clause-leads : goal.returns-in-Done-clause-leads
returns-in-Done-clause-leads c =
    marks_end c.start-marks.result c.first.new.self Expired c.args.self.now.expired.items (after_marks Expired c.args.self.now) (λ n. refl) (rw c.replace-expired.ensures.value at c.start-marks.ensures.run)
    _ c.in-Done.end (Ok (act.Done c.last_end.result)) c.args.self.now c.in-Done.is c.in_ok-act.ensures c.last_end.ensures
