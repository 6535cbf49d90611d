-- What the calls of the program promise, in parts that can be read one at a time: why a call ends as it does, its bucket, its shelf, the
-- check of a block, and the generated day.
use Rattle.std.specs.Prelude.{◌≡◌, ◌≢◌, ℕ, List, Bool, Option, Some, None, IfSome, is_some}
use Rattle.bucket_core.specs.Told.{next_bucket}
use Rattle.run_notes.specs.declared.run_note.RunNote.{RunNote}
use Rattle.call_verdicts.specs.Asked.{IsBucketAsked, IsUndecided, WasAskedFor}
use Rattle.call_verdicts.specs.Checks.{files_of}
use Rattle.call_verdicts.specs.Kept.{AsksNoBucket, IsHandedBack, IsHandedOut, IsShelfOf, IsUntouched, told_of}
use Rattle.call_verdicts.specs.Noted.{IsFullSaid, IsNoted, met}
use Rattle.call_verdicts.specs.Outside.{Names, Outside, names}
use Rattle.call_verdicts.specs.Statuses.{number_of}
use Rattle.call_verdicts.specs.Verdicts.{Around, IsCaused, IsCheckSaid, IsSaid, Saying, around_call}
use Rattle.call_verdicts.specs.declared.run.Run.{Run}
use Rattle.call_verdicts.specs.declared.status.Status.{Status}
use Rattle.call_verdicts.specs.declared.verdict.Verdict.{Verdict}
use Rattle.call_verdicts.specs.declared.verdict.Verdict.TheVariants.{NoMemory}
use Rattle.replay_cli.specs.CalmCalls.{EndsCalmly}
use Rattle.replay_cli.specs.Days.{IsDayDone, IsDayNoted}
use Rattle.replay_cli.specs.Ways.{Way, in_line, is_done_by, tells_by}

-- A call: the world around it and its sink, each before it and after it, and what it hands back.
pub record Call (B F : Type 0) : Type 1 where
  pub outside : Outside B F
  pub saying : Saying
  pub run : Run B F

abbrev pub call_of : {B F : Type 0} → Outside B F → Saying → Run B F → Call B F
call_of outside saying run = record { outside = outside; saying = saying; run = run }

-- what is told of the world around a call that does tasks in this way, and whose words name these
abbrev pub around_of : {B F : Type 0} → Way → Names → Call B F → Around
around_of way of c = around_call (is_done_by way) c.outside of c.run.store c.run.shelf c.run.journal

-- Where these notes say that an operation was answered with the full journal, the status says so, unless the sink failed.
abbrev pub TellsFull : {B : Type 0} → (Bool → Bool → Bool) → Saying → ℕ → Option (RunNote B) → Type 0
TellsFull says saying number note = IfSome note (λ n. IsFullSaid (says n.full n.wanted) saying number)

-- ---- the parts of a promise

-- Why it ends as it does. It comes to a verdict that has its cause, and says it: its status and its text, or that the sink failed or
-- memory ran out as it was said. Unless that is want of memory, the bucket was asked for what the journal shows, behind the page that
-- opens it, and for nothing else. The note of the run is of its journal and its bucket, and tells of the full journal just where the
-- verdict does. And a calm call ends as asked.
pub record EndsFor {B F : Type 0} (way : Way) (of : Names) (c : Call B F) : Type 0 where
  pub verdict : Verdict
  pub status : Status
  pub cause : IsCaused (around_of way of c) verdict
  pub said : IsSaid verdict c.saying status
  pub number : c.run.status ≡ number_of status
  pub asked : verdict ≢ NoMemory → IsBucketAsked c.outside.site.store verdict c.run.journal c.run.store
  pub noted : IsNoted (tells_by way) c.outside.site.store verdict c.run.journal c.run.store c.run.note
  pub full : TellsFull (tells_by way) c.saying c.run.status c.run.note
  pub calm : EndsCalmly (around_of way of c) c.saying verdict c.run.status

-- Its bucket. The site was asked for none where no word names one, and counts the one that is handed back. The journal is true of it,
-- and without an entry it is as the site opened it under the name of its word.
pub record HandsBucket {B F : Type 0} (word : Option (List ℕ)) (c : Call B F) : Type 0 where
  pub handed : IsHandedOut c.outside.site.before.buckets c.outside.site.after.buckets c.run.store
  pub kept : is_some c.run.journal ≡ is_some c.run.store
  pub back : IsHandedBack c.outside.site.store c.run.journal c.run.store
  pub untouched : IfSome (told_of (next_bucket c.outside.site.before) word) (λ contents. IsUntouched c.outside.site.store contents c.run.journal c.run.store)
  pub closed : word ≡ None → AsksNoBucket c.outside.site.before c.outside.site.after

-- Its shelf, of which the same holds. A check asked it for files of the block, each once; for all that are reached, where it says how
-- it ended. A run asked it for files of the blocks that its script takes from there, each once.
pub record HandsShelf {B F : Type 0} (of : Names) (c : Call B F) : Type 0 where
  pub shelf : IsShelfOf c.outside.site.files of.shelf c.outside.site.before c.outside.site.after c.run.shelf
  pub asked : IfSome c.run.shelf
      (WasAskedFor c.outside.site.files (files_of c.outside.site.files c.outside.site.before of.shelf c.run.shelf) c.outside.source.left of.block (IsUndecided c.run.status))

-- Where the words ask for the check of a block, the statuses 0 and 5 say that its line was written.
abbrev pub ChecksBlock : {B F : Type 0} → Names → Call B F → Type 0
ChecksBlock of c =
    (block : ℕ) → of.block ≡ Some block
    → IsCheckSaid (files_of c.outside.site.files c.outside.site.before of.shelf c.run.shelf) block c.saying c.run.status

-- ---- the calls

-- A call that does tasks in this way, and whose words name these, promises all of that. It runs no generated day.
pub record Serves {B F : Type 0} (way : Way) (of : Names) (c : Call B F) : Type 0 where
  pub ends : EndsFor way of c
  pub bucket : HandsBucket of.bucket c
  pub shelf : HandsShelf of c
  pub check : ChecksBlock of c
  pub no_day : c.run.day ≡ None

-- The generated day of this number was run, and its verdict said. The bucket is its own: the journal alone is handed out, with the
-- note of the day's run.
pub record RunsDay {B F : Type 0} (number : ℕ) (c : Call B F) : Type 0 where
  pub verdict : Verdict
  pub status : Status
  pub done : IsDayDone number (around_of in_line (names None None None) c) verdict
  pub said : IsSaid verdict c.saying status
  pub number_is : c.run.status ≡ number_of status
  pub noted : IsDayNoted verdict c.run.journal c.run.day
  pub full : TellsFull met c.saying c.run.status c.run.day
  pub no_store : c.run.store ≡ None
  pub no_shelf : c.run.shelf ≡ None
  pub no_note : c.run.note ≡ None

-- By the number of a generated day, where the words name one: that day; or the tasks of a script one after another, or a check.
abbrev pub ServesTool : {B F : Type 0} → Option ℕ → Names → Call B F → Type 0
ServesTool (Some number) of c = RunsDay number c
ServesTool None of c = Serves in_line of c
