-- Calls that read a script and run it, whatever the way: what is ready before the first task, and what such a call leaves.
use Rattle.std.specs.Prelude.{◌≡◌, ◌≢◌, ◌+◌, ℕ, List, Option, Some, None, IfSome, Result, Ok, Err, is_some}
use Rattle.bucket_core.specs.Told.{next_bucket}
use Rattle.world_core.specs.Worlds.{WorldView}
use Rattle.script_core.specs.declared.script.Script.{Script}
use Rattle.call_verdicts.specs.script_running.specs.Shelves.{setting_by}
use Rattle.call_verdicts.specs.Asked.{IsBroken, IsBucketAsked, WasAskedFor, WasReadFor}
use Rattle.call_verdicts.specs.Checks.{files_of}
use Rattle.call_verdicts.specs.Kept.{AsksNoBucket, HoldsNothing, IsHandedBack, IsHandedOut, IsShelfOf, IsUntouched, told_of}
use Rattle.call_verdicts.specs.Noted.{IsNoted}
use Rattle.call_verdicts.specs.Outside.{Names, Outside, names}
use Rattle.call_verdicts.specs.ShelfReads.{IsOfShelf}
use Rattle.call_verdicts.specs.Verdicts.{Around, IsCaused, IsScriptRead, around_call}
use Rattle.call_verdicts.specs.declared.ended.Ended.{Ended}
use Rattle.call_verdicts.specs.declared.verdict.Verdict.{Verdict}
use Rattle.call_verdicts.specs.declared.verdict.Verdict.TheVariants as verdict
use Rattle.replay_cli.specs.Ways.{MayRun, Way, is_done_by, tells_by}
use Rattle.replay_cli.specs.declared.preparing.Prepared.{Prepared}

-- what the words of a run name
abbrev pub run_names : List ℕ → Option (List ℕ) → Names
run_names bucket word = names (Some bucket) word None

-- what is told of the world around a call that does tasks in this way, and whose words name these
abbrev pub around_run : {B F : Type 0} → Way → Outside B F → Names → Ended B F → Around
around_run way o of ended = around_call (is_done_by way) o of ended.store ended.shelf ended.journal

-- The script is read, all that the words name was opened, and the shelf was asked for its blocks alone. Nothing had failed before
-- they were read.
pub record HasOpened {B F : Type 0} (o : Outside B F) (bucket : List ℕ) (word : Option (List ℕ)) (script : Script) (world : WorldView B) (own : Option F) : Type 0 where
  pub read : IsScriptRead o.source.left o.read.left script
  pub source : o.read.faults ≡ o.source.faults
  pub site : o.site.after.faults ≡ o.site.before.faults
  pub buckets : o.site.after.buckets ≡ o.site.before.buckets + 1
  pub empty : IfSome (next_bucket o.site.before bucket) HoldsNothing
  pub unfailed : (o.site.store world.bucket).faults ≡ 0
  pub named : is_some own ≡ is_some word
  pub shelf : IsShelfOf o.site.files word o.site.before o.site.after own
  pub asked : IfSome own (WasReadFor o.site.files o.source.left)

-- So it is, and the blocks that the script takes from the shelf were read: it can be run.
pub record IsPrepared {B F : Type 0} (o : Outside B F) (bucket : List ℕ) (word : Option (List ℕ)) (p : Prepared B F) : Type 0 where
  pub may : MayRun o.site.store p.script p.blocks p.world
  pub opened : HasOpened o bucket word p.script p.world p.shelf
  pub told : IfSome (files_of o.site.files o.site.before word p.shelf) (IsOfShelf (setting_by p.script p.blocks))
  pub calm : IfSome p.shelf (λ own. (o.site.files own).faults ≡ 0)

-- A call whose words name these, and which does tasks in this way, comes to this before it says a word, and has its cause.
pub record Leaves {B F : Type 0} (way : Way) (o : Outside B F) (of : Names) (ended : Ended B F) : Type 0 where
  pub cause : IsCaused (around_run way o of ended) ended.verdict
  pub handed : IsHandedOut o.site.before.buckets o.site.after.buckets ended.store
  pub kept : is_some ended.journal ≡ is_some ended.store
  pub back : IsHandedBack o.site.store ended.journal ended.store
  pub untouched : IfSome (told_of (next_bucket o.site.before) of.bucket) (λ c. IsUntouched o.site.store c ended.journal ended.store)
  pub closed : of.bucket ≡ None → AsksNoBucket o.site.before o.site.after
  pub asked_bucket : ended.verdict ≢ verdict.NoMemory → IsBucketAsked o.site.store ended.verdict ended.journal ended.store
  pub noted : IsNoted (tells_by way) o.site.store ended.verdict ended.journal ended.store ended.note
  pub shelf : IsShelfOf o.site.files of.shelf o.site.before o.site.after ended.shelf
  pub asked : IfSome ended.shelf (WasAskedFor o.site.files (files_of o.site.files o.site.before of.shelf ended.shelf) o.source.left of.block (IsBroken ended.verdict))

-- A run can begin. Or the call has ended before, in whichever way the tasks were to be done.
abbrev pub Prepares : {B F : Type 0} → Outside B F → List ℕ → Option (List ℕ) → Result (Prepared B F) (Ended B F) → Type 0
Prepares o bucket word (Ok ready) = IsPrepared o bucket word ready
Prepares o bucket word (Err ended) = (way : Way) → Leaves way o (run_names bucket word) ended
