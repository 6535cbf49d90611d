use Rattle.sync_filters.proofs.HolderPlaces.{larger_between}
use Rattle.sync_filters.proofs.holders.larger_of.Goals as goal

pub returns : goal.returns
returns c = larger_between c.args.holders.now c.between.result.now c.args.key c.args.least c.first_of.result c.end_of_larger.result c.first_of.ensures.point c.end_of_larger.ensures.point c.between.ensures
