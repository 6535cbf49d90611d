use Rattle.std.proofs.Common.{[], ◌∷◌, ◌+◌, ◌*◌, length, ap}
use Rattle.world_core.specs.Operations.{entry_of}
use Rattle.compactor.specs.contracts.reads.ReadsMachine.TheImpl.{ghosts as reads}
use Rattle.compactor.specs.CompactStates.{most_asked, after_reads, asked_compact, count_of as count_of_all}
use Rattle.compactor.proofs.CompactBegins.{fits_step}
use Rattle.compactor.proofs.CompactCounts.{same_level, level_falls, falls_at}
use Rattle.compactor.proofs.CompactSteps.{part_asks, part_ends, to_state}
use Rattle.compactor.proofs.compact.Compact.step_reads.Goals as goal

pub after_reads-requires : goal.after_reads-requires
after_reads-requires c = record { fits = fits_step c.args.reads c.step.new.self c.args.seen _ c.in-Done.end c.in-Done.is c.requires.answer c.in-Ok.ensures.goes_on }

pub returns-in-Do-clause-goes_on : goal.returns-in-Do-clause-goes_on
returns-in-Do-clause-goes_on c = λ seat op asks.
    part_asks reads.may reads.asked c.args.reads c.step.new.self (entry_of seat op c.args.seen ∷ []) (λ own came. after_reads c.args.self.now c.args.labels c.args.parents.items came)
    _ c.in-Do.op _ c.in-Do.is (ap asked_compact c.wait_in.ensures) (to_state _ _ c.wait_in.ensures) (c.in-Ok.ensures.goes_on seat op asks)

pub returns-in-Do-clause-falls : goal.returns-in-Do-clause-falls
returns-in-Do-clause-falls c = falls_at (most_asked * (3 * length c.args.self.now.groups.items + 4)) (reads.measure c.args.reads) (reads.measure c.step.new.self) _ _ _ (ap count_of_all c.wait_in.ensures) c.in-Do.is c.in-Ok.ensures.falls

pub returns-in-Done-clause-goes_on : goal.returns-in-Done-clause-goes_on
returns-in-Done-clause-goes_on c = λ seat op asks.
    part_ends reads.may reads.asked c.args.reads c.step.new.self (entry_of seat op c.args.seen ∷ []) (λ own came. after_reads c.args.self.now c.args.labels c.args.parents.items came)
    _ c.in-Done.end c.after_reads.result c.after_reads.new.self c.in-Done.is (c.in-Ok.ensures.goes_on seat op asks) c.after_reads.ensures.leads

pub returns-in-Done-clause-falls : goal.returns-in-Done-clause-falls
returns-in-Done-clause-falls c = level_falls (3 * length c.args.self.now.groups.items + 4) (3 * length c.args.self.now.groups.items + 4) (reads.measure c.args.reads) c.after_reads.result _ (same_level _) c.after_reads.ensures.falls

pub step-requires : goal.step-requires
step-requires c = c.requires.answer
