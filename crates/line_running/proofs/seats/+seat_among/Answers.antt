use Rattle.std.proofs.Common.{refl, sym, ◌∙◌}
use Rattle.line_running.proofs.SeatLists.{seat_none, seat_first, seat_later}
use Rattle.line_running.proofs.seats.+seat_among.Goals as goal

pub returns-in-empty : goal.returns-in-empty
returns-in-empty t c = seat_none c.args.workers.now c.args.hand c.in-empty.len_below

pub returns-then-serves : goal.returns-then-serves
returns-then-serves t c = seat_first c.args.workers.now c.worker-item.result c.args.hand c.in-len1-up.len_at_least c.worker-item.is (sym c.serves.ensures ∙ c.if-serves.true)

pub returns-else-serves : goal.returns-else-serves
returns-else-serves t c =
    seat_later c.args.workers.now _ c.worker-item.result c.args.hand c.seat_among.result c.in-len1-up.len_at_least c.worker-item.is (sym c.serves.ensures ∙ c.if-serves.false) refl c.seat_among.ensures
