use Rattle.std.proofs.Common.{[], ◌+◌, ◌*◌, length, arith, ap}
use Rattle.compactor.specs.contracts.reads.ReadsMachine.TheImpl.{ghosts as reads}
use Rattle.compactor.proofs.Beginnings.{reads_ask, reads_end}
use Rattle.compactor.proofs.CompactBegins.{fits_first}
use Rattle.compactor.proofs.ReadCounts.{reads_few}
use Rattle.compactor.proofs.CompactCounts.{under_at}
use Rattle.world_core.proofs.LeadSteps.{falls_more}
use Rattle.compactor.specs.CompactStates.{asked_compact, count_of as count_of_all}
use Rattle.compactor.proofs.CompactSteps.{to_state}
use Rattle.compactor.proofs.compact.Compact.read_group.Goals as goal

pub after_reads-requires : goal.after_reads-requires
after_reads-requires c = record { fits = fits_first c.start-reads.result c.first.new.self [] _ c.in-Done.end c.in-Done.is c.in-Ok.ensures }

pub returns-in-Do-clause-leads : goal.returns-in-Do-clause-leads
returns-in-Do-clause-leads c =
    reads_ask c.args.self.now c.start-reads.result c.first.new.self c.args.job.labels c.args.job.parents.items c.args.job.first c.args.job.others.items c.requires.parents c.start-reads.ensures.run
    _ c.in-Do.op _ c.in-Do.is (ap asked_compact c.wait_in.ensures) (to_state _ _ c.wait_in.ensures) c.in-Ok.ensures

pub returns-in-Do-clause-falls : goal.returns-in-Do-clause-falls
returns-in-Do-clause-falls c = under_at (3 * length c.args.self.now.groups.items + 4) (3 * length c.args.self.now.groups.items + 5) (reads.measure c.first.new.self) _ (ap count_of_all c.wait_in.ensures) (omega arith) (reads_few c.first.new.self)

pub returns-in-Done-clause-leads : goal.returns-in-Done-clause-leads
returns-in-Done-clause-leads c =
    reads_end c.args.self.now c.start-reads.result c.first.new.self c.args.job.labels c.args.job.parents.items c.args.job.first c.args.job.others.items c.requires.parents c.start-reads.ensures.run
    _ c.in-Done.end c.after_reads.result c.after_reads.new.self c.in-Done.is c.in-Ok.ensures c.after_reads.ensures.leads

pub returns-in-Done-clause-falls : goal.returns-in-Done-clause-falls
returns-in-Done-clause-falls c = falls_more _ _ c.after_reads.result _ (omega arith) c.after_reads.ensures.falls
