use Rattle.std.proofs.Common.{arith}
use Rattle.compactor.proofs.LastNamed.{named_start, named_more, named_end}
use Rattle.compactor.proofs.named.last_named.Goals as goal

pub loop-one-init : goal.loop-one-init
loop-one-init c = named_start c.args.indexed.now

pub loop-one-preserved : goal.loop-one-preserved
loop-one-preserved c = named_more c.loop-one.last c.last_of_chunks-last.result c.args.indexed.now c.loop-one.one-index c.one-item.result _ c.chunks.result.now c.loop-one.invariant c.loop-one-test.true c.one-item.is c.chunks.ensures c.last_of_chunks-last.ensures

pub returns : goal.returns
returns c = named_end c.loop-one.last c.args.indexed.now c.loop-one.one-index c.loop-one.invariant (omega arith)
