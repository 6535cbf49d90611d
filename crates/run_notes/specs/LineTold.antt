-- What the hand of a run in line tells, apart from its seat: over a whole run it goes from seat to seat.
use Rattle.std.specs.Prelude.{Some, length}
use Rattle.world_core.specs.Told.{HandTold}
use Rattle.run_notes.specs.declared.line_hand.LineHand.{LineHand}

abbrev pub line_told : {B : Type 0} → LineHand B → HandTold
line_told hand = record {
  entries = hand.world.journal;
  seat = 0;
  front = Some hand.world.journal;
  known = length hand.world.journal;
  refused = hand.refused;
  wanted = hand.wanted;
}
