use Rattle.store_calls.specs.CallStates.{query_of}
use Rattle.store_calls.proofs.Meeting.{from_place, from_none}
use Rattle.store_calls.proofs.select.from_first_meeting.Goals as goal

pub returns-in-Some : goal.returns-in-Some
returns-in-Some c = let p = from_place (query_of c.args.asked) c.args.blocks.now c.in-Some.place c.in-Some.ensures.place in record { same = p.0; first = p.1 }

pub returns-in-None : goal.returns-in-None
returns-in-None c = let p = from_none (query_of c.args.asked) c.args.blocks.now c.in-None.ensures.place in record { same = p.0; first = p.1 }
