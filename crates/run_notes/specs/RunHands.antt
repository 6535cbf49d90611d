-- What the operations of a run in line leave of its hand, from whichever seats they were done.
use Rattle.std.specs.Prelude.{Bool}
use Rattle.bucket_core.specs.Told.{BucketTold}
use Rattle.world_core.specs.Turning.{Turned}
use Rattle.run_notes.specs.LineHands.{KeepsRun}
use Rattle.run_notes.specs.LineTold.{line_told}
use Rattle.run_notes.specs.declared.line_hand.LineHand.{LineHand}

-- it is the same run's
abbrev pub keeps_run : {B : Type 0} → (B → BucketTold) → LineHand B → LineHand B → Type 0
keeps_run tells old new = KeepsRun tells old.opened.value old.wanted old.world new.opened.value new.wanted new.world

-- From `old` to `new` the hand did operations, or none, from whichever seats.
abbrev pub TurnedRun : {B : Type 0} → (B → BucketTold) → LineHand B → LineHand B → Bool → Bool → Type 0
TurnedRun tells old new full short = Turned line_told (keeps_run tells) old new full short
