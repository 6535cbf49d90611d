use Rattle.std.proofs.Common.{◌∙◌}
use Rattle.std.proofs.Math.IntN.{+ℤ_idr}
use Rattle.run_messages.proofs.dates.utc_date.Goals as goal

pub returns : goal.returns
returns c = c.to_datetime.ensures ∙ +ℤ_idr c.args.timestamp.nanosecond
