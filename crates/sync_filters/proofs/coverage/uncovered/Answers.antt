use Rattle.sync_filters.proofs.Places.{splits}
use Rattle.sync_filters.proofs.coverage.uncovered.Goals as goal

pub returns : goal.returns
returns c = splits c.split.result c.args.found c.in_ok-listed.listed.items c.in_ok-listed.ensures.same c.in_ok-listed.ensures.ascend c.split.ensures.kept c.split.ensures.covered
