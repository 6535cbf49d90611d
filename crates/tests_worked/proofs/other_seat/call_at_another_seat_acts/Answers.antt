use Rattle.tests_worked.proofs.one.OtherSeat.{acts, call_is, not_lawful, view_is}
use Rattle.tests_worked.proofs.other_seat.call_at_another_seat_acts.Goals as goal

pub returns : goal.returns
returns c = record { acting = acts; unlawful = not_lawful; view = view_is; call = call_is }
