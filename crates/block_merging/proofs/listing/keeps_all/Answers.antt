use Rattle.std.proofs.Common.{arith, refl, get_or}
use Rattle.block_merging.proofs.WholeListing.{none_kept, one_kept, all_kept}
use Rattle.block_merging.proofs.listing.keeps_all.Goals as goal

pub loop-label-init : goal.loop-label-init
loop-label-init c = none_kept c.args.labels.now c.args.external.now c.args.replicas.now

pub loop-label-preserved : goal.loop-label-preserved
loop-label-preserved c =
    one_kept c.args.labels.now c.loop-label.label-index (get_or c.args.labels.now c.loop-label.label-index _) _ c.is_kept.result c.args.external.now c.args.replicas.now c.loop-label-test.true refl c.loop-label.invariant c.is_kept.ensures c.if-not-is_kept.false

pub returns : goal.returns
returns c true_is = all_kept c.args.labels.now c.loop-label.label-index c.args.external.now c.args.replicas.now (omega (arith, c.loop-label-test.false)) c.loop-label.invariant
