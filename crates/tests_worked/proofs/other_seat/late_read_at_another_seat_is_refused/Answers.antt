use Rattle.tests_worked.proofs.one.OtherSeat.{unwatched_keeps, watched_refuses}
use Rattle.tests_worked.proofs.other_seat.late_read_at_another_seat_is_refused.Goals as goal

pub returns : goal.returns
returns c = record { watched = watched_refuses; unwatched = unwatched_keeps }
