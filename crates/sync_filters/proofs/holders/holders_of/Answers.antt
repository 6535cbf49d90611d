use Rattle.sync_filters.proofs.HolderPlaces.{holders_between}
use Rattle.sync_filters.proofs.holders.holders_of.Goals as goal

pub returns : goal.returns
returns c = holders_between c.args.holders.now c.between.result.now c.args.key c.first_of.result c.end_of.result c.first_of.ensures.point c.end_of.ensures.point c.between.ensures
