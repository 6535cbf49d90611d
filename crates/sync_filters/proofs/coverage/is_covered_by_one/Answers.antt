use Rattle.std.proofs.Common.{refl}
use Rattle.sync_filters.proofs.BitMarks.{none_more, some_there, none_there}
use Rattle.sync_filters.proofs.coverage.is_covered_by_one.Goals as goal

pub returns-then-covers : goal.returns-then-covers
returns-then-covers c = some_there c.args.listed.now c.args.few.now c.args.block.now c.loop-holder.holder-index _ _ c.covers.result c.loop-holder-test.true refl c.covers.ensures c.if-covers.true

pub loop-holder-preserved : goal.loop-holder-preserved
loop-holder-preserved c = none_more c.args.listed.now c.args.few.now c.args.block.now c.loop-holder.holder-index _ _ c.covers.result c.loop-holder-test.true refl c.covers.ensures c.if-covers.false c.loop-holder.invariant

pub returns : goal.returns
returns c = none_there c.args.listed.now c.args.few.now c.args.block.now c.loop-holder.holder-index c.loop-holder-test.false c.loop-holder.invariant
