-- The ways in which the tasks of a script are done, and a run over a world, done in one of them.
use Rattle.std.specs.Prelude.{◌≡◌, ◌≢◌, Bool, List, [], Option, Some}
use Rattle.bucket_core.specs.Asking.{Call}
use Rattle.bucket_core.specs.Contents.{nothing}
use Rattle.bucket_core.specs.Told.{BucketTold}
use Rattle.world_core.specs.Asking.{IsAllAsked}
use Rattle.world_core.specs.Worlds.{WorldView, failed_count}
use Rattle.world_core.specs.declared.entry.Entry.{Entry}
use Rattle.script_core.specs.Lawful.{IsLawfulScript}
use Rattle.script_core.specs.declared.script.Script.{Script}
use Rattle.run_notes.specs.declared.run_note.RunNote.{RunNote}
use Rattle.call_verdicts.specs.lifecycle_core.specs.InLine.{IsInLine}
use Rattle.call_verdicts.specs.lifecycle_core.specs.Setting.{Setting}
use Rattle.call_verdicts.specs.script_running.specs.Shelves.{AreAllAtHand}
use Rattle.call_verdicts.specs.script_running.specs.declared.shelf.ShelfBlock.{ShelfBlock}
use Rattle.call_verdicts.specs.Asked.{WasAsked, calls_asked, for_opening}
use Rattle.call_verdicts.specs.Noted.{IsNoted, met, met_alone}
use Rattle.call_verdicts.specs.Verdicts.{IsRun}
use Rattle.call_verdicts.specs.declared.verdict.Verdict.{Verdict}
use Rattle.call_verdicts.specs.declared.verdict.Verdict.TheVariants as verdict
use Rattle.replay_cli.specs.InPhases.{IsInPhases}

-- one task after another, in the order of the lines; or the workers of a phase beside each other
pub data Way : Type 0 where
  in_line : Way
  beside : Way

-- the journals of runs in this way
abbrev pub is_done_by : Way → Setting → List Entry → Type 0
is_done_by in_line = IsInLine
is_done_by beside = IsInPhases

-- whether a call tells that the journal is full, by what the operations of its run were answered
abbrev pub tells_by : Way → Bool → Bool → Bool
tells_by in_line = met
tells_by beside = met_alone

-- A script can be run over a world: all that it takes from the shelf is at hand, and nothing was done yet.
pub record MayRun {B : Type 0} (tells : B → BucketTold) (script : Script) (shelf : List ShelfBlock) (world : WorldView B) : Type 0 where
  pub lawful : IsLawfulScript script
  pub at_hand : AreAllAtHand script shelf
  pub fresh : world.journal ≡ []
  pub tick : world.tick ≡ script.rules.tick.ms
  pub asked : WasAsked (calls_asked tells) for_opening world.bucket

-- Its script was run over the world in this way, and came to the verdict, with this world and this note.
pub record HasRun {B : Type 0} (way : Way) (tells : B → BucketTold) (setting : Setting) (old : WorldView B) (v : Verdict) (new : WorldView B) (note : Option (RunNote B)) : Type 0 where
  pub cause : IsRun (is_done_by way) setting (Some nothing) ⊥ (Some new.journal) v
  pub unfailed : failed_count new.journal ≡ 0 → (tells new.bucket).faults ≡ (tells old.bucket).faults
  -- unless want of memory is told, all that the bucket was asked is journaled if it was before
  pub all : v ≢ verdict.NoMemory → (before : List Call) → IsAllAsked tells before old → IsAllAsked tells before new
  -- the note says what the operations of the run were answered
  pub noted : IsNoted (tells_by way) tells v (Some new.journal) (Some new.bucket) note
