use Rattle.std.proofs.Common.{length}
use Rattle.line_running.proofs.seats.+seat_among.Given as goal

abbrev pub decreases-seat_among : goal.decreases-seat_among
decreases-seat_among l = length l.workers.now
