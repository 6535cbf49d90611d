use Rattle.std.proofs.Common.{◌∙◌, ap}
use Rattle.std.specs.Prelude.{Err}
use Rattle.bucket_core.specs.Causes.{Rose}
use Rattle.call_verdicts.proofs.Verdicts.{refused_too_long}
use Rattle.call_verdicts.proofs.opening.read_script.Goals as goal

pub returns-in-Err-TooLong-clause-refused : goal.returns-in-Err-TooLong-clause-refused
returns-in-Err-TooLong-clause-refused g c =
    refused_too_long (g.R.Source.told c.args.source.now).left (g.R.Source.told c.read_all.new.source).left (Rose (g.R.Source.told c.args.source.now).faults (g.R.Source.told c.read_all.new.source).faults)
    (c.read_all.ensures.long (c.in-Err-TooLong.is ∙ ap Err c.in-Err-TooLong.field-0-is))
