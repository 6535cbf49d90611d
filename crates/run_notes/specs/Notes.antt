-- What the note of a run tells.
use Rattle.std.specs.Prelude.{◌≡◌, Bool}
use Rattle.world_core.specs.Worlds.{WorldView}
use Rattle.run_notes.specs.declared.run_note.RunNote.{RunNote}

-- It tells whether the full journal was met, whether memory was wanted for an operation, and which world was left.
pub record Tells {B : Type 0} (full wanted : Bool) (world : WorldView B) (note : RunNote B) : Type 0 where
  pub full_is : note.full ≡ full
  pub wanted_is : note.wanted ≡ wanted
  pub world_is : note.world.value ≡ world
