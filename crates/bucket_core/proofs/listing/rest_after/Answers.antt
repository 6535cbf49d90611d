use Rattle.bucket_core.proofs.Names.{stripped}
use Rattle.bucket_core.proofs.listing.rest_after.Goals as goal

pub returns : goal.returns
returns c = stripped c.args.text.now c.args.key.now c.strip_prefix.result c.strip_prefix.ensures.cases
