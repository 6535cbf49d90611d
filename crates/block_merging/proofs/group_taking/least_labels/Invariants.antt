use Rattle.std.proofs.Common.{map, take}
use Rattle.std.specs.Prelude.{option_map}
use Rattle.base.specs.Lists.{joined}
use Rattle.index_v2.specs.LentLabels.{as_label}
use Rattle.block_merging.specs.Queues.{LeastIs, lefts_in}
use Rattle.block_merging.proofs.group_taking.least_labels.Given as goal

abbrev pub invariant-loop-queue : goal.invariant-loop-queue
invariant-loop-queue l = LeastIs (option_map (λ s. map as_label s.now) l.least) (joined (lefts_in l.external l.replicas (take l.queue-index l.queues)))
