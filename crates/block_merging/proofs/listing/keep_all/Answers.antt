use Rattle.std.proofs.Common.{arith, map}
use Rattle.index_v2.specs.LentLabels.{as_label}
use Rattle.block_merging.proofs.WholeListing.{none_lost, one_whole, all_whole}
use Rattle.block_merging.proofs.listing.keep_all.Goals as goal

pub loop-one-init : goal.loop-one-init
loop-one-init c = none_lost c.args.external.now c.args.replicas.now c.args.indexed.now

pub loop-one-preserved : goal.loop-one-preserved
loop-one-preserved c =
    one_whole c.args.external.now c.args.replicas.now c.args.indexed.now c.loop-one.one-index c.one-item.result _ (map as_label c.labels.result.now) c.loop-one-test.true c.one-item.is c.labels.ensures.value (c.keeps_all.ensures c.if-not-keeps_all.false) c.loop-one.invariant

pub returns : goal.returns
returns c true_is = all_whole c.args.external.now c.args.replicas.now c.args.indexed.now c.loop-one.one-index (omega (arith, c.loop-one-test.false)) c.loop-one.invariant
