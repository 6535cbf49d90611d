use Rattle.std.proofs.Common.{length}
use Rattle.run_messages.proofs.of_calls.+tells_breach.Given as goal

abbrev pub decreases-tells_breach : goal.decreases-tells_breach
decreases-tells_breach l = length l.told.now
