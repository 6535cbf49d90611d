use Rattle.store_chunks.proofs.RowsApart.{apart_begun, fits, apart_more, apart_all}
use Rattle.store_chunks.proofs.row_shown.add_chunks.Goals as goal

pub loop-chunk-init : goal.loop-chunk-init
loop-chunk-init c = apart_begun c.args.apart.now.items c.args.samples.now c.args.chunks.now c.requires

pub split_at-requires : goal.split_at-requires
split_at-requires c = fits c.args.apart.now.items c.args.samples.now c.args.chunks.now c.loop-chunk.apart.items c.loop-chunk.chunk-index _ c.loop-chunk.left.now c.loop-chunk-test.true c.loop-chunk.invariant

pub loop-chunk-preserved : goal.loop-chunk-preserved
loop-chunk-preserved c =
    apart_more c.args.apart.now.items c.args.samples.now c.args.chunks.now c.loop-chunk.apart.items c.loop-chunk.chunk-index _ c.loop-chunk.left.now c.loop-chunk-test.true c.loop-chunk.invariant c.split_at.result.0.now
    c.split_at.result.1.now c.add_read.new.apart.items c.split_at.ensures.front c.split_at.ensures.back c.in_ok-add_read.ensures

pub returns : goal.returns
returns c = apart_all c.args.apart.now.items c.args.samples.now c.args.chunks.now c.loop-chunk.apart.items c.loop-chunk.chunk-index c.loop-chunk.left.now c.loop-chunk-test.false c.loop-chunk.invariant
