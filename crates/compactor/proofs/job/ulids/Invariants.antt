use Rattle.std.proofs.Common.{◌≡◌, take}
use Rattle.group_planner.specs.Members.{ulids_of}
use Rattle.compactor.proofs.job.ulids.Given as goal

abbrev pub invariant-loop-meta : goal.invariant-loop-meta
invariant-loop-meta l = l.made.items ≡ ulids_of (take l.meta-index l.metas)
