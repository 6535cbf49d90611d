-- What stands before a run, and how a call ends that does not come so far.
use Rattle.std.specs.Prelude.{◌≡◌, ◌≢◌, ◌+◌, ℕ, List, [], Option, Some, None, IfSome, is_some}
use Rattle.bucket_core.specs.Contents.{Contents}
use Rattle.bucket_core.specs.Told.{BucketTold, ShelfTold, SiteTold, next_bucket}
use Rattle.world_core.specs.Worlds.{WorldView}
use Rattle.script_core.specs.Lawful.{IsLawfulScript}
use Rattle.script_core.specs.declared.script.Script.{Script}
use Rattle.report_lines.specs.lifecycle_core.specs.Setting.{setting_of}
use Rattle.call_verdicts.specs.Asked.{IsBucketAsked, WasAsked, WasOnlyOpened, WasReadFor, calls_asked, for_opening, names_asked}
use Rattle.call_verdicts.specs.Kept.{HoldsNothing, IsHandedBack, IsHandedOut, IsOpened, IsShelfOf, IsUnfailed, IsUntouched}
use Rattle.call_verdicts.specs.Outside.{Outside, SiteCall, names}
use Rattle.call_verdicts.specs.Undone.{IsUndone}
use Rattle.call_verdicts.specs.Verdicts.{Around, BehindOpening, IfShort, IsEarly, IsFirstOf, IsRun, IsScriptRead, IsWorked, SiteFailed, around_call, held_in}
use Rattle.call_verdicts.specs.declared.ended.Ended.{Ended}
use Rattle.call_verdicts.specs.declared.opening.Ready.{Ready}
use Rattle.call_verdicts.specs.declared.verdict.Verdict.TheVariants as verdict

-- ---- what stands before a run

-- a bucket that has not failed and was asked for nothing
pub record IsUnused (store : BucketTold) : Type 0 where
  pub unfailed : store.faults ≡ 0
  pub unasked : IfSome store.asked (λ calls. calls ≡ [])

-- A world was opened in which nothing was done yet. Its bucket has not failed, and was asked for the page that opens it alone.
pub record IsNewWorld {B : Type 0} (tells : B → BucketTold) (script : Script) (world : WorldView B) : Type 0 where
  pub journal : world.journal ≡ []
  pub tick : world.tick ≡ script.rules.tick.ms
  pub unfailed : (tells world.bucket).faults ≡ 0
  pub asked : WasAsked (calls_asked tells) for_opening world.bucket

-- The shelf of a word was opened, where the word names one. It has not failed, and was asked for nothing.
pub record IsShelfOpen {F : Type 0} (tells : F → ShelfTold) (word : Option (List ℕ)) (old new : SiteTold) (shelf : Option F) : Type 0 where
  pub of : IsShelfOf tells word old new shelf
  pub named : is_some shelf ≡ is_some word
  pub unfailed : IfSome shelf (λ s. (tells s).faults ≡ 0)
  pub unasked : IfSome shelf (WasAsked (names_asked tells) [])

-- All that the words of a run name was opened, and the site has not failed. The bucket held nothing, where the site tells that.
pub record IsOpen {B F : Type 0} (s : SiteCall B F) (bucket : List ℕ) (word : Option (List ℕ)) (script : Script) (world : WorldView B) (shelf : Option F) : Type 0 where
  pub site : s.after.faults ≡ s.before.faults
  pub buckets : s.after.buckets ≡ s.before.buckets + 1
  pub empty : IfSome (next_bucket s.before bucket) HoldsNothing
  pub new : IsNewWorld s.store script world
  pub own : IsShelfOpen s.files word s.before s.after shelf

-- So it is, and the script was read to its end.
pub record IsReady {B F : Type 0} (o : Outside B F) (bucket : List ℕ) (word : Option (List ℕ)) (ready : Ready B F) : Type 0 where
  pub read : IsScriptRead o.source.left o.read.left ready.script
  pub lawful : IsLawfulScript ready.script
  pub source : o.read.faults ≡ o.source.faults
  pub opened : IsOpen o.site bucket word ready.script ready.world ready.shelf

-- ---- a call that ended before its run

-- No world was opened over the bucket that was handed out, if one was. It held this before, where that is told, and nothing was done
-- to it: the journal over it is empty, and it was asked for the page that opens a world at most. A site fault has this cause.
pub record IsUnopened {B F : Type 0} (tells : B → BucketTold) (script : Script) (before : Option Contents) (failed : Type 0) (ended : Ended B F) : Type 0 where
  pub cause : IsRun IsUndone (setting_of script) before failed ended.journal ended.verdict
  pub first : IsFirstOf (held_in tells ended.store) ended.verdict
  pub early : IsEarly ended.verdict
  pub unfailed : IfShort ended.verdict (IsUnfailed tells 0 ended.journal ended.store)
  pub kept : is_some ended.journal ≡ is_some ended.store
  pub back : IsHandedBack tells ended.journal ended.store
  pub untouched : IfSome before (λ c. IsUntouched tells c ended.journal ended.store)
  pub asked : ended.verdict ≢ verdict.NoMemory → IsBucketAsked tells ended.verdict ended.journal ended.store
  pub opened : IfSome ended.store (WasOnlyOpened tells)

-- The call ended as it opened what the words of a run name. Its shelf, if it was opened, has not failed and was asked for nothing.
pub record HasNotOpened {B F : Type 0} (s : SiteCall B F) (bucket : List ℕ) (word : Option (List ℕ)) (script : Script) (ended : Ended B F) : Type 0 where
  pub unopened : IsUnopened s.store script (next_bucket s.before bucket) (SiteFailed s.before s.after s.store ended.store) ended
  pub site : IfShort ended.verdict (s.after.faults ≡ s.before.faults)
  pub handed : IsHandedOut s.before.buckets s.after.buckets ended.store
  pub named : BehindOpening ended.verdict (IsOpened (Some bucket) word ended.store ended.shelf)
  pub of : IsShelfOf s.files word s.before s.after ended.shelf
  pub unfailed : IfSome ended.shelf (λ files. (s.files files).faults ≡ 0)
  pub unasked : IfSome ended.shelf (WasAsked (names_asked s.files) [])
  pub note : ended.note ≡ None

-- what is told of the world around a call that ended before its run
abbrev pub around_ended : {B F : Type 0} → Outside B F → List ℕ → Option (List ℕ) → Ended B F → Around
around_ended o bucket word ended = around_call IsUndone o (names (Some bucket) word None) ended.store ended.shelf ended.journal

-- The call ended before its run, by its source or its script or as it opened what the words name: this is why, and what it leaves.
pub record HasEnded {B F : Type 0} (o : Outside B F) (bucket : List ℕ) (word : Option (List ℕ)) (ended : Ended B F) : Type 0 where
  pub cause : IsWorked (around_ended o bucket word ended) ended.verdict
  pub short : IfShort ended.verdict (around_ended o bucket word ended).unfailed
  pub handed : IsHandedOut o.site.before.buckets o.site.after.buckets ended.store
  pub kept : is_some ended.journal ≡ is_some ended.store
  pub back : IsHandedBack o.site.store ended.journal ended.store
  pub untouched : IfSome (next_bucket o.site.before bucket) (λ c. IsUntouched o.site.store c ended.journal ended.store)
  pub asked : ended.verdict ≢ verdict.NoMemory → IsBucketAsked o.site.store ended.verdict ended.journal ended.store
  pub opened : IfSome ended.store (WasOnlyOpened o.site.store)
  pub of : IsShelfOf o.site.files word o.site.before o.site.after ended.shelf
  pub read : IfSome ended.shelf (WasReadFor o.site.files o.source.left)
  pub note : ended.note ≡ None
