-- What a call comes to whose run is finished.
use Rattle.std.specs.Prelude.{◌≡◌, Option, Some}
use Rattle.bucket_core.specs.Contents.{nothing}
use Rattle.bucket_core.specs.Told.{BucketTold}
use Rattle.world_core.specs.Worlds.{WorldView}
use Rattle.run_notes.specs.declared.run_note.RunNote.{RunNote}
use Rattle.call_verdicts.specs.Kept.{IsHandedBack, IsUntouched}
use Rattle.call_verdicts.specs.declared.ended.Ended.{Ended}
use Rattle.call_verdicts.specs.declared.verdict.Verdict.{Verdict}

-- This is all that a call comes to whose run came to the verdict, with this world and this note; and its shelf is handed back.
pub record IsEndOfRun {B F : Type 0} (tells : B → BucketTold) (v : Verdict) (world : WorldView B) (told : Option (RunNote B)) (own : Option F) (ended : Ended B F) : Type 0 where
  pub verdict : ended.verdict ≡ v
  pub journal : ended.journal ≡ Some world.journal
  pub store : ended.store ≡ Some world.bucket
  pub note : ended.note ≡ told
  pub shelf : ended.shelf ≡ own
  pub back : IsHandedBack tells ended.journal ended.store
  pub untouched : IsUntouched tells nothing ended.journal ended.store
