use Rattle.block_merging.proofs.Putting.{alone_put}
use Rattle.block_merging.proofs.series_merge.put_alone.Goals as goal

pub returns : goal.returns
returns c labels = alone_put c.carry.result c.args.writer.now c.carry.new.writer labels _ c.requires.stored c.carry.ensures
