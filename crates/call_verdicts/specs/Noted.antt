-- What a call leaves of the answers to its run's operations, and what it says by them.
use Rattle.std.specs.Prelude.{◌≡◌, ◌≢◌, ◌⊎◌, ◌&&◌, ℕ, Bool, not, true, false, List, [], Option, Some, None, IfSome}
use Rattle.bucket_core.specs.Causes.{Rose}
use Rattle.bucket_core.specs.Told.{BucketTold}
use Rattle.world_core.specs.declared.entry.Entry.{Entry}
use Rattle.call_verdicts.specs.Asked.{WasAskedAsShown, WasOnlyOpened}
use Rattle.call_verdicts.specs.Statuses.{number_of}
use Rattle.call_verdicts.specs.Verdicts.{Saying}
use Rattle.run_notes.specs.declared.run_note.RunNote.{RunNote}
use Rattle.call_verdicts.specs.declared.status.Status.TheVariants.{JournalFull, SinkFault}
use Rattle.call_verdicts.specs.declared.verdict.Verdict.{Verdict}
use Rattle.call_verdicts.specs.declared.verdict.Verdict.TheVariants as verdict

-- the verdict tells that the journal is full
abbrev pub tells_full : Verdict → Bool
tells_full (verdict.Full lines) = true
tells_full other = false

-- Whether a call tells that the journal is full, by whether an operation was answered so, and whether memory was wanted for one. Where
-- the tasks are done one after another, a run ends with the first of these answers.
abbrev pub met : Bool → Bool → Bool
met full wanted = full

-- With threads it may have both: then want of memory is told.
abbrev pub met_alone : Bool → Bool → Bool
met_alone full wanted = full && not wanted

-- The note is of the journal and the bucket that are handed back, and of the answers by which the call comes to its verdict.
pub record IsNoteOf {B : Type 0} (says : Bool → Bool → Bool) (tells : B → BucketTold) (v : Verdict) (journal : Option (List Entry)) (store : Option B) (note : RunNote B) : Type 0 where
  pub journal_is : journal ≡ Some note.world.value.journal
  pub store_is : store ≡ Some note.world.value.bucket
  -- the verdict tells that the journal is full just where the answers ask for it
  pub full : says note.full note.wanted ≡ tells_full v
  -- memory was wanted for an operation only where the verdict tells that
  pub short : note.wanted ≡ true → v ≡ verdict.NoMemory
  -- unless it was, the bucket was asked for what the journal shows
  pub asks : note.wanted ≡ false → WasAskedAsShown tells note.world.value.journal note.world.value.bucket

-- The call has such a note. Or it has none, no operation was done, and the bucket was asked for its opening page at most.
abbrev pub IsNoted : {B : Type 0} → (Bool → Bool → Bool) → (B → BucketTold) → Verdict → Option (List Entry) → Option B → Option (RunNote B) → Type 0
IsNoted {B} says tells verdict journal store (Some note) = IsNoteOf says tells verdict journal store note
IsNoted {B} says tells verdict journal store None = IfSome journal (λ entries. entries ≡ []) × (tells_full verdict ≡ false) × IfSome store (WasOnlyOpened tells)

-- Where the full journal is to be told, the status tells it, or that the sink failed. Else it does not tell it.
abbrev pub IsFullSaid : Bool → Saying → ℕ → Type 0
IsFullSaid true saying number =
    (number ≡ number_of JournalFull) ⊎ ((number ≡ number_of SinkFault) × Rose saying.faults_before saying.faults_after)
IsFullSaid false saying number = number ≢ number_of JournalFull
