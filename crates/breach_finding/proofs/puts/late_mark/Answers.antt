use Rattle.std.proofs.Common.{subst}
use Rattle.breach_finding.specs.Told.{IsSecondOf}
use Rattle.breach_finding.proofs.puts.late_mark.Goals as goal

pub returns-in-None : goal.returns-in-None
returns-in-None c x y late = subst (IsSecondOf c.args.bytes.now) c.in-None.is c.in_ok-second.ensures late.0 late.1
