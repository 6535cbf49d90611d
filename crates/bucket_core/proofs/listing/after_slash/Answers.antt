use Rattle.std.proofs.Common.{arith}
use Rattle.std.proofs.lemmas.Str.Pattern.{strip_prefix_char}
use Rattle.bucket_core.proofs.Names.{stripped_slash}
use Rattle.bucket_core.proofs.listing.after_slash.Goals as goal

pub returns : goal.returns
returns c =
    stripped_slash c.args.key.now c.strip_prefix.result
    (strip_prefix_char 47 c.args.key.now c.strip_prefix.result c.strip_prefix.ensures.cases (omega arith))
