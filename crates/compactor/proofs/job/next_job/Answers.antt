use Rattle.std.proofs.Common.{ap, length, subst, arith}
use Rattle.compactor.specs.Jobs.{IsFor}
use Rattle.compactor.proofs.SkippedGroups.{skips_more}
use Rattle.compactor.proofs.job.next_job.Goals as goal

pub loop-group-preserved : goal.loop-group-preserved
loop-group-preserved c = record {
  skips = skips_more c.args.groups.now.items c.loop-group.groups.items c.pop_front.new.self.items c.in-Some.group c.loop-group.invariant.skips c.in-Some.ensures.items
      (subst (IsFor c.in-Some.group) c.in_default-2.is c.in_ok-job.ensures);
  fewer = omega (arith, ap length c.in-Some.ensures.items, c.loop-group.invariant.fewer);
}
