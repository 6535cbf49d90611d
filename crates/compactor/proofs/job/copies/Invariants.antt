use Rattle.std.proofs.Common.{◌≡◌, take}
use Rattle.compactor.proofs.job.copies.Given as goal

abbrev pub invariant-loop-meta : goal.invariant-loop-meta
invariant-loop-meta l = l.copied.items ≡ take l.meta-index l.metas
