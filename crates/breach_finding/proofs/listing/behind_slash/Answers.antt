use Rattle.std.proofs.Common.{sym}
use Rattle.block_keys.proofs.NameText.{after_first-none, uncut}
use Rattle.breach_finding.proofs.listing.behind_slash.Goals as goal

pub returns-in-None : goal.returns-in-None
returns-in-None c = sym (after_first-none c.args.text.now (uncut c.args.text.now c.in-None.ensures.cases))
