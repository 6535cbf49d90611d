use Rattle.sync_filters.specs.Holders.{mixed, digest_of}
use Rattle.sync_filters.proofs.Digests.{folded_more, folded_all}
use Rattle.sync_filters.proofs.digest.digest.Goals as goal

pub loop-source-preserved : goal.loop-source-preserved
loop-source-preserved c = folded_more mixed c.args.sources.now c.loop-source.source-index c.loop-source.digest c.mix-digest.result c.number_of.result c.source-item.result _
    c.loop-source-test.true c.mix-digest.ensures c.number_of.ensures c.source-item.is c.loop-source.invariant

pub returns : goal.returns
unfolding digest_of
returns c = folded_all mixed c.args.sources.now c.loop-source.source-index c.loop-source.digest _ c.loop-source-test.false c.loop-source.invariant
