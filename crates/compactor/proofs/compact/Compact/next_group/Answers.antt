use Rattle.std.proofs.Common.{arith, subst}
use Rattle.compactor.specs.Jobs.{Takes}
use Rattle.compactor.proofs.CompactCounts.{left_fewer}
use Rattle.compactor.proofs.Rounds.{group_begins, none_begins}
use Rattle.world_core.proofs.LeadSteps.{falls_more}
use Rattle.compactor.proofs.TwoPlanned.{others_planned}
use Rattle.compactor.proofs.compact.Compact.next_group.Goals as goal

pub invariant_of-self : goal.invariant_of-self
invariant_of-self c = omega (arith, c.args.self.now.counted, c.next_job.ensures.fewer)

pub read_group-requires-clause-parents : goal.read_group-requires-clause-parents
read_group-requires-clause-parents c = (subst (Takes c.args.self.now.groups.items c.next_job.new.groups.items) c.in-Some.is c.in_ok-job.ensures.takes).is.parents_are

pub read_group-requires-clause-many : goal.read_group-requires-clause-many
read_group-requires-clause-many c =
    let takes = subst (Takes c.args.self.now.groups.items c.next_job.new.groups.items) c.in-Some.is c.in_ok-job.ensures.takes in
    others_planned takes.group.members c.in-Some.job.first c.in-Some.job.others.items takes.is.plan

pub returns-in-Some-clause-leads : goal.returns-in-Some-clause-leads
returns-in-Some-clause-leads c =
    let takes = subst (Takes c.args.self.now.groups.items c.next_job.new.groups.items) c.in-Some.is c.in_ok-job.ensures.takes in
    group_begins c.args.self.now c.read_group.new.self c.read_group.result c.next_job.new.groups.items c.saturating_add-self.result c.in-Some.job takes
    (omega (arith, c.saturating_add-self.ensures, c.args.self.now.counted, left_fewer c.args.self.now.groups.items c.next_job.new.groups.items c.in-Some.job takes)) c.read_group.ensures.leads

pub returns-in-Some-clause-falls : goal.returns-in-Some-clause-falls
returns-in-Some-clause-falls c =
    let takes = subst (Takes c.args.self.now.groups.items c.next_job.new.groups.items) c.in-Some.is c.in_ok-job.ensures.takes in
    falls_more _ _ c.read_group.result _ (omega (arith, left_fewer c.args.self.now.groups.items c.next_job.new.groups.items c.in-Some.job takes)) c.read_group.ensures.falls

pub returns-in-None-clause-leads : goal.returns-in-None-clause-leads
returns-in-None-clause-leads c =
    none_begins c.args.self.now c.expire.new.self c.expire.result (subst (Takes c.args.self.now.groups.items c.next_job.new.groups.items) c.in-None.is c.in_ok-job.ensures.takes) c.expire.ensures.leads

pub returns-in-None-clause-falls : goal.returns-in-None-clause-falls
returns-in-None-clause-falls c = falls_more _ _ c.expire.result _ (omega arith) c.expire.ensures.falls
