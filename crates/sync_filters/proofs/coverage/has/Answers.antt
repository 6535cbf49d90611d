use Rattle.std.proofs.Common.{◌∙◌}
use Rattle.sync_filters.proofs.Places.{found_by}
use Rattle.sync_filters.proofs.coverage.has.Goals as goal

pub returns : goal.returns
returns c = c.is_ok.ensures.value ∙ found_by c.args.ulids.now c.args.ulid c.binary_search.result c.requires c.binary_search.ensures.position
