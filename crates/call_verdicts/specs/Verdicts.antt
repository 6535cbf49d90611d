-- What a call of the program comes to, why, and what it then writes.
use Rattle.std.specs.Prelude.{◌≡◌, ◌≢◌, ◌⊎◌, ◌<◌, ℕ, List, [], ◌∷◌, ◌++◌, Bool, true, false, Option, Some, None, option_map, IfSome, IsSome, IsSomeAnd, Ok, Err, codes}
use Rattle.base.specs.Lines.{newline}
use Rattle.bucket_core.specs.Causes.{Rose}
use Rattle.bucket_core.specs.Contents.{Contents, nothing}
use Rattle.bucket_core.specs.Pages.{IsPage}
use Rattle.bucket_core.specs.Told.{BucketTold, ShelfTold, SinkTold, SiteTold, next_bucket}
use Rattle.world_core.specs.Keeping.{IsFull}
use Rattle.world_core.specs.Standing.{IsHonest}
use Rattle.world_core.specs.Worlds.{failed_count}
use Rattle.world_core.specs.declared.entry.Entry.{Entry}
use Rattle.script_core.specs.GivenUp.{HasPatternLine}
use Rattle.script_core.specs.Lawful.{IsLawfulScript}
use Rattle.script_core.specs.Reading.{script_of}
use Rattle.script_fields.specs.Wording.{refusal_text}
use Rattle.script_core.specs.declared.script.Script.{Script}
use Rattle.script_fields.specs.declared.cause.LineCause.TheVariants.{PatternSizeText}
use Rattle.script_fields.specs.declared.script_refusal.ScriptRefusal.{ScriptRefusal}
use Rattle.script_fields.specs.declared.script_refusal.ScriptRefusal.TheVariants.{BadLine, TooLong}
use Rattle.report_lines.specs.lifecycle_core.specs.Breaches.{IsUnbroken}
use Rattle.report_lines.specs.lifecycle_core.specs.Causes.{AreWell}
use Rattle.report_lines.specs.lifecycle_core.specs.Guarantees.{IsGuaranteedJournal}
use Rattle.report_lines.specs.lifecycle_core.specs.Quiet.{DeletesNothing}
use Rattle.report_lines.specs.lifecycle_core.specs.Setting.{Setting}
use Rattle.report_lines.specs.CheckLines.{check_line}
pub use Rattle.report_lines.specs.WholeRuns.{IsFullRun, IsReport, IsWholeRun}
use Rattle.call_verdicts.specs.Checks.{check_status, files_of, IsCheckOf}
use Rattle.call_verdicts.specs.Kept.{AsksNoBucket, AsksNoShelf, HoldsNothing, IsOpened, IsUnfailed, told_of}
use Rattle.call_verdicts.specs.Outside.{Names, Outside}
use Rattle.call_verdicts.specs.Output.{IsWrittenInPart}
use Rattle.call_verdicts.specs.ShelfReads.{IsOfShelf}
use Rattle.call_verdicts.specs.Shippable.{RefusesNone, StaysWithin}
use Rattle.call_verdicts.specs.Statuses.{number_of}
use Rattle.report_lines.specs.declared.check_outcome.CheckOutcome.{CheckOutcome}
use Rattle.call_verdicts.specs.declared.status.Status.{Status}
use Rattle.call_verdicts.specs.declared.status.Status.TheVariants as status
use Rattle.call_verdicts.specs.declared.verdict.Verdict.{Verdict}
use Rattle.call_verdicts.specs.declared.verdict.Verdict.TheVariants.{WordsRefused, SourceFault, ScriptRefused, SiteFault, NotEmpty, Full, Report, Checked, NoMemory}

abbrev pub status_of : Verdict → Status
status_of WordsRefused = status.WordsRefused
status_of SourceFault = status.SourceFault
status_of (ScriptRefused refusal) = status.ScriptRefused
status_of SiteFault = status.SiteFault
status_of (NotEmpty name) = status.BucketNotEmpty
status_of (Full lines) = status.JournalFull
status_of (Report lines true) = status.Done
status_of (Report lines false) = status.ActivityFailed
status_of (Checked block outcome) = check_status outcome
status_of NoMemory = status.NoMemory

abbrev pub text_of : Verdict → List ℕ
text_of WordsRefused = codes "words refused" ++ newline
text_of SourceFault = codes "script read fault" ++ newline
text_of (ScriptRefused refusal) = codes "script refused: " ++ refusal_text refusal ++ newline
text_of SiteFault = codes "site fault" ++ newline
text_of (NotEmpty name) = codes "bucket not empty: " ++ name ++ newline
text_of (Full lines) = lines.items ++ (codes "journal full" ++ newline)
text_of (Report lines as_asked) = lines.items
text_of (Checked block outcome) = check_line block outcome
text_of NoMemory = []

-- the last line of a text, where it is the same in each call
abbrev pub last_of : Verdict → List ℕ
last_of (Full lines) = codes "journal full" ++ newline
last_of WordsRefused = text_of WordsRefused
last_of SourceFault = text_of SourceFault
last_of SiteFault = text_of SiteFault
last_of (ScriptRefused refusal) = []
last_of (NotEmpty name) = []
last_of (Report lines as_asked) = []
last_of (Checked block outcome) = []
last_of NoMemory = []

-- the text before that line
abbrev pub first_of : Verdict → List ℕ
first_of (Full lines) = lines.items
first_of WordsRefused = []
first_of SourceFault = []
first_of SiteFault = []
first_of (ScriptRefused refusal) = text_of (ScriptRefused refusal)
first_of (NotEmpty name) = text_of (NotEmpty name)
first_of (Report lines as_asked) = text_of (Report lines as_asked)
first_of (Checked block outcome) = text_of (Checked block outcome)
first_of NoMemory = text_of NoMemory

-- The text is there before it is written: a run brings its lines along, and of other verdicts the same words are written in each call.
abbrev pub is_at_hand : Verdict → Bool
is_at_hand (Full lines) = true
is_at_hand (Report lines as_asked) = true
is_at_hand WordsRefused = true
is_at_hand SourceFault = true
is_at_hand SiteFault = true
is_at_hand (ScriptRefused refusal) = false
is_at_hand (NotEmpty name) = false
is_at_hand (Checked block outcome) = false
is_at_hand NoMemory = false

-- ---- causes

-- what is told of the world around a call
pub record Around : Type 1 where
  -- the words ask for the run of a script
  pub run : Type 0
  -- the block that the words ask to be checked
  pub block : Option ℕ
  -- the text of the script, where the source tells it
  pub text : Option (List ℕ)
  -- what the source then holds still, where it tells
  pub left : Option (List ℕ)
  -- the source failed in this call
  pub source_failed : Type 0
  -- what the bucket held before, where the site tells it
  pub before : Option Contents
  -- what the bucket holds that is handed back, where it tells it
  pub held : Option Contents
  -- what the words name could not be opened, or the bucket not listed
  pub site_failed : Type 0
  -- the site handed out all that the words name
  pub opened : Type 0
  -- the site was asked for nothing
  pub unasked : Type 0
  -- the files of the shelf that the words name, where the site tells them or the shelf that was handed out
  pub files : Option Contents
  -- the shelf could not be opened, or a reading of it failed
  pub shelf_failed : Type 0
  -- the journal that is handed back
  pub journal : Option (List Entry)
  -- nothing failed, but what the journal shows: no count of failures of the source, the site, the bucket or the shelf has risen
  pub unfailed : Type 0
  -- what holds of the journal of a run, by the way in which the call does phases
  pub is_done : Setting → List Entry → Type 0

-- an opening failed, or the bucket that was handed out has failed
abbrev pub SiteFailed : {B : Type 0} → (old new : SiteTold) → (B → BucketTold) → Option B → Type 0
SiteFailed old new tells store = Rose old.faults new.faults ⊎ IsSomeAnd store (λ bucket. 0 < (tells bucket).faults)

-- an opening failed, or the shelf that was handed out has failed
abbrev pub ShelfFailed : {F : Type 0} → (old new : SiteTold) → (F → ShelfTold) → Option F → Type 0
ShelfFailed old new tells shelf = Rose old.faults new.faults ⊎ IsSomeAnd shelf (λ files. 0 < (tells files).faults)

-- what a bucket tells that it holds, if there is one
abbrev pub held_in : {B : Type 0} → (B → BucketTold) → Option B → Option Contents
held_in tells None = None
held_in tells (Some store) = (tells store).contents

-- The world around a call over this outside whose words name these, and which handed back a bucket and a journal, or neither, and
-- a shelf or none.
abbrev pub around_call : {B F : Type 0} → (Setting → List Entry → Type 0) → Outside B F → Names → Option B → Option F → Option (List Entry) → Around
around_call is_done o of store shelf journal = record {
  run = IsSome of.bucket;
  block = of.block;
  text = o.source.left;
  left = o.read.left;
  source_failed = Rose o.source.faults o.read.faults;
  before = told_of (next_bucket o.site.before) of.bucket;
  held = held_in o.site.store store;
  site_failed = SiteFailed o.site.before o.site.after o.site.store store;
  opened = IsOpened of.bucket of.shelf store shelf;
  unasked = AsksNoBucket o.site.before o.site.after × AsksNoShelf o.site.before o.site.after;
  files = files_of o.site.files o.site.before of.shelf shelf;
  shelf_failed = ShelfFailed o.site.before o.site.after o.site.files shelf;
  journal = journal;
  unfailed =
      (o.read.faults ≡ o.source.faults) × (o.site.after.faults ≡ o.site.before.faults)
      × IsUnfailed o.site.store 0 journal store × IfSome shelf (λ s. (o.site.files s).faults ≡ 0);
  is_done = is_done;
}

-- Why a script's run comes to a verdict: by what the bucket held before, where that is told; by whether something could not
-- be opened, or the bucket not listed; and by the journal that is handed back. Whatever it comes to, the journal is lawful
-- for the script, and it was done in the way that the call promises.
abbrev pub IsRun : (Setting → List Entry → Type 0) → Setting → Option Contents → Type 0 → Option (List Entry) → Verdict → Type 0
IsRun is_done setting before site_failed journal SiteFault = site_failed × IfSome journal (λ entries. entries ≡ [])
IsRun is_done setting before site_failed journal (NotEmpty name) = IfSome before (λ contents. IsPage contents [] [] 1 (name ∷ [])) × IsSomeAnd journal (λ entries. entries ≡ [])
IsRun is_done setting before site_failed journal (Full lines) = IfSome before HoldsNothing × IsSomeAnd journal (λ entries. is_done setting entries × IsFullRun setting lines.items entries)
IsRun is_done setting before site_failed journal (Report lines as_asked) = IfSome before HoldsNothing × IsSomeAnd journal (λ entries. is_done setting entries × IsWholeRun setting as_asked lines.items entries)
IsRun is_done setting before site_failed journal NoMemory = IfSome journal (λ entries. is_done setting entries × IsGuaranteedJournal setting entries)
IsRun is_done setting before site_failed journal other = ⊥

-- The name that a verdict tells of a bucket that is not empty is the least of what the bucket tells that is handed back.
abbrev pub IsFirstOf : Option Contents → Verdict → Type 0
IsFirstOf held (NotEmpty name) = IfSome held (λ contents. IsPage contents [] [] 1 (name ∷ []))
IsFirstOf held WordsRefused = Unit {0}
IsFirstOf held SourceFault = Unit {0}
IsFirstOf held (ScriptRefused refusal) = Unit {0}
IsFirstOf held SiteFault = Unit {0}
IsFirstOf held (Full lines) = Unit {0}
IsFirstOf held (Report lines as_asked) = Unit {0}
IsFirstOf held (Checked block outcome) = Unit {0}
IsFirstOf held NoMemory = Unit {0}

-- what holds where a verdict comes behind all openings
abbrev pub BehindOpening : Verdict → Type 0 → Type 0
BehindOpening (NotEmpty name) P = P
BehindOpening (Full lines) P = P
BehindOpening (Report lines as_asked) P = P
BehindOpening (Checked block outcome) P = P
BehindOpening WordsRefused P = Unit {0}
BehindOpening SourceFault P = Unit {0}
BehindOpening (ScriptRefused refusal) P = Unit {0}
BehindOpening SiteFault P = Unit {0}
BehindOpening NoMemory P = Unit {0}

-- What holds where a verdict comes behind the reading of the shelf's blocks: a run came to its end, or something was done.
abbrev pub BehindReading : Verdict → Option (List Entry) → Type 0 → Type 0
BehindReading (Full lines) journal P = P
BehindReading (Report lines as_asked) journal P = P
BehindReading NoMemory journal P = IsSomeAnd journal (λ entries. entries ≢ []) → P
BehindReading WordsRefused journal P = Unit {0}
BehindReading SourceFault journal P = Unit {0}
BehindReading (ScriptRefused refusal) journal P = Unit {0}
BehindReading SiteFault journal P = Unit {0}
BehindReading (NotEmpty name) journal P = Unit {0}
BehindReading (Checked block outcome) journal P = Unit {0}

-- a verdict to which no run comes that was begun
abbrev pub IsEarly : Verdict → Type 0
IsEarly WordsRefused = Unit {0}
IsEarly SourceFault = Unit {0}
IsEarly (ScriptRefused refusal) = Unit {0}
IsEarly SiteFault = Unit {0}
IsEarly (NotEmpty name) = Unit {0}
IsEarly (Full lines) = ⊥
IsEarly (Report lines as_asked) = ⊥
IsEarly (Checked block outcome) = Unit {0}
IsEarly NoMemory = Unit {0}

-- The source was read to its end, and these are its bytes: those that it tells, where it tells them.
abbrev pub IsReadWhole : Option (List ℕ) → Option (List ℕ) → List ℕ → Type 0
IsReadWhole told left bytes = IfSome told (λ all. (bytes ≡ all) × (left ≡ Some []))

-- The text is refused for what it says; or for the size of a pattern, which is lawful, as are all lines before it.
abbrev pub IsRefused : List ℕ → ScriptRefusal → Type 0
IsRefused text refusal = (script_of text ≡ Err refusal) ⊎ ((number : ℕ) × (refusal ≡ BadLine number PatternSizeText) × HasPatternLine text number)

-- The source was read to its end, and its text spells the script. One that tells nothing was of some text.
abbrev pub IsScriptRead : Option (List ℕ) → Option (List ℕ) → Script → Type 0
IsScriptRead told left script = (text : List ℕ) × IsReadWhole told left text × (script_of text ≡ Ok script)

-- The text was read to its end and spells a lawful script, whose run comes to the verdict, by what was read of the shelf for its
-- blocks. Where the shelf's files are told, that is of them.
pub record IsRunOfText (around : Around) (verdict : Verdict) : Type 0 where
  pub setting : Setting
  pub read : IsScriptRead around.text around.left setting.script
  pub lawful : IsLawfulScript setting.script
  pub opened : BehindOpening verdict around.opened
  pub shelf : BehindReading verdict around.journal (IfSome around.files (IsOfShelf setting))
  pub run : IsRun around.is_done setting around.before (around.site_failed ⊎ around.shelf_failed) around.journal verdict
  pub first : IsFirstOf around.held verdict

-- why no script was read: by the source, or by its text, which was read to its end unless it was too long
abbrev pub IsUnread : Option (List ℕ) → Option (List ℕ) → Type 0 → Verdict → Type 0
IsUnread told left source_failed SourceFault = source_failed
IsUnread told left source_failed (ScriptRefused refusal) =
    ((refusal ≡ TooLong) × IfSome told (λ bytes. script_of bytes ≡ Err TooLong))
    ⊎ ((text : List ℕ) × IsReadWhole told left text × IsRefused text refusal)
IsUnread told left source_failed NoMemory = Unit {0}
IsUnread told left source_failed other = ⊥

-- Why a call whose words are a form of one comes to a verdict. Where no script was read, the site was asked for nothing.
abbrev pub IsWorked : Around → Verdict → Type 0
IsWorked around verdict = (IsUnread around.text around.left around.source_failed verdict × (around.journal ≡ None) × around.unasked) ⊎ IsRunOfText around verdict

-- Why the check of a block comes to a verdict: by the files of its shelf, where they are told, or by a failure of the site or of
-- the shelf.
abbrev pub IsChecked : Option Contents → ℕ → Type 0 → Verdict → Type 0
IsChecked files ulid failed (Checked block outcome) = (block ≡ ulid) × IsCheckOf files ulid outcome
IsChecked files ulid failed SiteFault = failed
IsChecked files ulid failed NoMemory = Unit {0}
IsChecked files ulid failed other = ⊥

-- no script was to be run: none was read, and no journal begun
pub record IsNoRun (around : Around) : Type 0 where
  pub none : ¬ around.run
  pub journal : around.journal ≡ None
  pub unread : around.left ≡ around.text

-- the words name a block, and its check comes to the verdict; a shelf was handed out just where the words name one
abbrev pub IsCheckDone : Around → Verdict → Type 0
IsCheckDone around verdict = IsNoRun around × IsSomeAnd around.block (λ ulid. IsChecked around.files ulid around.shelf_failed verdict) × BehindOpening verdict around.opened

-- what holds where memory was wanted
abbrev pub IfShort : Verdict → Type 0 → Type 0
IfShort NoMemory P = P
IfShort WordsRefused P = Unit {0}
IfShort SourceFault P = Unit {0}
IfShort (ScriptRefused refusal) P = Unit {0}
IfShort SiteFault P = Unit {0}
IfShort (NotEmpty name) P = Unit {0}
IfShort (Full lines) P = Unit {0}
IfShort (Report lines as_asked) P = Unit {0}
IfShort (Checked block outcome) P = Unit {0}

-- By what the words of a call ask for: the run of a script; or the check of a block; or they are no form of a call, and then the
-- site is asked for nothing.
abbrev pub IsCalled : Around → Verdict → Type 0
IsCalled around verdict =
    (around.run × (around.block ≡ None) × IsWorked around verdict)
    ⊎ IsCheckDone around verdict
    ⊎ (IsNoRun around × (around.block ≡ None) × (verdict ≡ WordsRefused) × around.unasked)

-- Why a call comes to a verdict. Want of memory is told only where nothing failed but what the journal shows.
abbrev pub IsCaused : Around → Verdict → Type 0
IsCaused around verdict = IsCalled around verdict × IfShort verdict around.unfailed

-- ---- what is said

-- A sink: how often it failed and what was written, before a call and after it.
pub record Saying : Type 0 where
  pub faults_before : ℕ
  pub faults_after : ℕ
  pub written_before : Option (List ℕ)
  pub written_after : Option (List ℕ)

-- a sink by its counts and what was written, before a call and after it
abbrev pub saying_to : (old new : SinkTold) → Saying
saying_to old new = record { faults_before = old.faults; faults_after = new.faults; written_before = old.written; written_after = new.written }

-- the text was added to what was written
abbrev pub IsAdded : List ℕ → Saying → Type 0
IsAdded text saying = saying.written_after ≡ option_map (λ bytes. bytes ++ text) saying.written_before

-- The verdict's text was written and its status is the call's; or the sink failed as it was written; or there was no memory for
-- it, and the sink was asked for nothing: it has not failed, and nothing was written. A text that is at hand wants none.
abbrev pub IsSaid : Verdict → Saying → Status → Type 0
IsSaid verdict saying result =
    ((result ≡ status_of verdict) × IsAdded (text_of verdict) saying)
    ⊎ ((result ≡ status.SinkFault) × (verdict ≢ NoMemory) × Rose saying.faults_before saying.faults_after × IsWrittenInPart (text_of verdict) saying.written_before saying.written_after)
    ⊎ ((result ≡ status.NoMemory) × (is_at_hand verdict ≡ false) × (saying.faults_after ≡ saying.faults_before) × (saying.written_after ≡ saying.written_before))

-- With the status of a check, the line of the block's check was written, and it tells how the check ended.
abbrev pub IsCheckSaid : Option Contents → ℕ → Saying → ℕ → Type 0
IsCheckSaid files ulid saying number =
    (number ≡ 0) ⊎ (number ≡ 5)
    → (outcome : CheckOutcome) × IsCheckOf files ulid outcome × (number ≡ number_of (check_status outcome)) × IsAdded (check_line ulid outcome) saying

-- Nothing stands in the way of a run: the source tells a text that spells a script, and the bucket held nothing.
pub record CanBegin (around : Around) : Type 0 where
  pub text : List ℕ
  pub told : around.text ≡ Some text
  pub script : Script
  pub spelled : script_of text ≡ Ok script
  pub empty : around.before ≡ Some nothing

-- a run begins, or the journal shows that it began
abbrev pub IsBegun : Around → Type 0
IsBegun around = CanBegin around ⊎ IsSomeAnd around.journal (λ entries. entries ≢ [])

-- No rule refuses an entry of the journal, which it shows by itself; or it is honest, as each one over a bucket is that tells what it
-- holds, and no line of the script is a cleaning.
abbrev pub IsTrusted : Setting → List Entry → Type 0
IsTrusted setting entries = IsUnbroken setting entries ⊎ (IsHonest entries × DeletesNothing setting.script)

-- the text that was read spells a lawful script, of which the journal may be
pub record MayBeOf (around : Around) (setting : Setting) (entries : List Entry) : Type 0 where
  pub read : IsScriptRead around.text around.left setting.script
  pub lawful : IsLawfulScript setting.script
  pub done : around.is_done setting entries

-- it is not full, no call failed, and it is trusted
pub record IsCalmJournal (around : Around) (entries : List Entry) : Type 0 where
  pub room : ¬ IsFull entries
  pub unfailed : failed_count entries ≡ 0
  pub trusted : (setting : Setting) → MayBeOf around setting entries → IsTrusted setting entries

-- A call is calm: its words ask for a run, the run begins, nothing failed, and the journal is not full, and trusted, of whichever
-- script it may be. (Where the source tells its text, that is one script.)
pub record IsCalm (around : Around) (saying : Saying) : Type 0 where
  pub accepts : around.run
  pub begins : IsBegun around
  pub source : ¬ around.source_failed
  pub site : ¬ around.site_failed
  pub shelf : ¬ around.shelf_failed
  pub sink : ¬ Rose saying.faults_before saying.faults_after
  pub journal : IfSome around.journal (IsCalmJournal around)

-- A whole run of which each task ended well, but some block of the script is refused, or a task met a limit.
pub record MeetsLimit (setting : Setting) (text : List ℕ) (entries : List Entry) : Type 0 where
  pub run : IsWholeRun setting false text entries
  pub well : AreWell run.ends
  pub meets : ¬ (RefusesNone setting × StaysWithin run.ends)

-- The call ran such a script, and wrote the report of that run, by which some activity failed.
pub record TellsRefused (around : Around) (saying : Saying) : Type 0 where
  pub verdict : Verdict
  pub ran : IsRunOfText around verdict
  pub fails : status_of verdict ≡ status.ActivityFailed
  pub limit : IsSomeAnd around.journal (MeetsLimit ran.setting (text_of verdict))
  pub written : IsAdded (text_of verdict) saying

-- A calm call ends as asked, unless there is no memory, a block of its script is refused, or a task met a limit. Only where its
-- text asks for patterns may its script be refused for the size of one: of which sizes `regex` builds a pattern, no definition says.
abbrev pub EndsCalmly : Around → Saying → ℕ → Type 0
EndsCalmly around saying number =
    IsCalm around saying
    → (number ≡ number_of status.Done) ⊎ (number ≡ number_of status.NoMemory)
    ⊎ ((number ≡ number_of status.ScriptRefused) × IsSomeAnd around.text (λ text. (line : ℕ) × HasPatternLine text line))
    ⊎ ((number ≡ number_of status.ActivityFailed) × TellsRefused around saying)
