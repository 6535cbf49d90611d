use Rattle.std.proofs.Common.{length}
use Rattle.line_running.proofs.seats.+has.Given as goal

abbrev pub decreases-has : goal.decreases-has
decreases-has l = length l.places.now
