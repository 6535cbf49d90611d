use Rattle.breach_finding.proofs.PutTimes.{upload_told}
use Rattle.breach_finding.proofs.puts.upload_breach.Goals as goal

pub returns-in-Put : goal.returns-in-Put
returns-in-Put c setting journal before same =
    upload_told setting journal before c.args.rules.now c.args.entry.now c.in-Put.key c.in-Put.field-1 same c.in-Put.is c.object_untimely.result c.object_untimely.ensures
