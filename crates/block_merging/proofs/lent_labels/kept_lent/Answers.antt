use Rattle.std.proofs.Common.{rules}
use Rattle.block_merging.proofs.LentOrder.{retained}
use Rattle.block_merging.proofs.lent_labels.kept_lent.Goals as goal

pub returns : goal.returns
returns c = retained _ _ c.args.external.now c.args.replicas.now (λ label b f' k. search rules) _ _ c.retain.ensures.filtered
