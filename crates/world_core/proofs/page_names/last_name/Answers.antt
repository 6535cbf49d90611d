use Rattle.world_core.proofs.PageNames.{last_copied}
use Rattle.world_core.proofs.page_names.last_name.Goals as goal

pub returns : goal.returns
returns c = last_copied c.copy.result c.args.names.now c.index-names-names.result _ c.requires c.index-names-names.is c.copy.ensures
