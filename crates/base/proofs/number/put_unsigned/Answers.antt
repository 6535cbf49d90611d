use Rattle.std.proofs.Common.{rules}
use Rattle.base.proofs.Printed.{printed}
use Rattle.base.proofs.number.put_unsigned.Goals as goal

pub returns-clause-ok : goal.returns-clause-ok
returns-clause-ok c = search (rules, printed)
