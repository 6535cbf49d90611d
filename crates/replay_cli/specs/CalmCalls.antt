-- Calls that end as asked: nothing goes wrong in them, and their run is trusted for the script that it read.
use Rattle.std.specs.Prelude.{◌≡◌, ◌≢◌, ◌⊎◌, ℕ, List, [], false, Option, Some, IfSome, IsSomeAnd, Ok}
use Rattle.bucket_core.specs.Causes.{Rose}
use Rattle.bucket_core.specs.Contents.{nothing}
use Rattle.world_core.specs.Keeping.{IsFull}
use Rattle.world_core.specs.Worlds.{failed_count}
use Rattle.world_core.specs.declared.entry.Entry.{Entry}
use Rattle.script_core.specs.GivenUp.{HasPatternLine}
use Rattle.script_core.specs.Reading.{script_of}
use Rattle.script_core.specs.declared.script.Script.{Script}
use Rattle.call_verdicts.specs.lifecycle_core.specs.Causes.{AreWell}
use Rattle.call_verdicts.specs.lifecycle_core.specs.Setting.{Setting}
use Rattle.call_verdicts.specs.Shippable.{RefusesNone, StaysWithin}
use Rattle.call_verdicts.specs.Statuses.{number_of}
use Rattle.call_verdicts.specs.Verdicts.{Around, IsAdded, IsRunOfText, IsTrusted, IsWholeRun, Saying, status_of, text_of}
use Rattle.call_verdicts.specs.declared.status.Status.TheVariants as status
use Rattle.call_verdicts.specs.declared.verdict.Verdict.{Verdict}

-- Nothing stands in the way of a run: the source tells a text that spells a script, and the bucket held nothing.
pub record CanBegin (around : Around) : Type 0 where
  pub text : List ℕ
  pub told : around.text ≡ Some text
  pub script : Script
  pub spelled : script_of text ≡ Ok script
  pub empty : around.before ≡ Some nothing

-- a run begins, or the journal shows that it began
abbrev pub IsBegun : Around → Type 0
IsBegun around = CanBegin around ⊎ IsSomeAnd around.journal (λ entries. entries ≢ [])

-- The journal is not full, no call failed, and it is trusted for the script of the run that came to this verdict.
pub record IsCalmJournal (around : Around) (verdict : Verdict) (entries : List Entry) : Type 0 where
  pub room : ¬ IsFull entries
  pub unfailed : failed_count entries ≡ 0
  pub ran : IsRunOfText around verdict
  pub trusted : IsTrusted ran.setting entries

-- A call is calm: its words ask for a run, the run begins, nothing failed, and the journal is calm.
pub record IsCalm (around : Around) (saying : Saying) (verdict : Verdict) : Type 0 where
  pub accepts : around.run
  pub begins : IsBegun around
  pub source : ¬ around.source_failed
  pub site : ¬ around.site_failed
  pub shelf : ¬ around.shelf_failed
  pub sink : ¬ Rose saying.faults_before saying.faults_after
  pub journal : IfSome around.journal (IsCalmJournal around verdict)

-- A whole run of which each task ended well, but some block of the script is refused, or a task met a limit.
pub record MeetsLimit (setting : Setting) (text : List ℕ) (entries : List Entry) : Type 0 where
  pub run : IsWholeRun setting false text entries
  pub well : AreWell run.ends
  pub meets : ¬ (RefusesNone setting × StaysWithin run.ends)

-- The call ran such a script, and wrote the report of that run, by which some activity failed.
pub record TellsRefused (around : Around) (saying : Saying) (verdict : Verdict) : Type 0 where
  pub ran : IsRunOfText around verdict
  pub fails : status_of verdict ≡ status.ActivityFailed
  pub limit : IsSomeAnd around.journal (MeetsLimit ran.setting (text_of verdict))
  pub written : IsAdded (text_of verdict) saying

-- A calm call ends as asked, unless there is no memory, a block of its script is refused, or a task met a limit. Only where its
-- text asks for patterns may its script be refused for the size of one: of which sizes `regex` builds a pattern, no definition says.
abbrev pub EndsCalmly : Around → Saying → Verdict → ℕ → Type 0
EndsCalmly around saying verdict number =
    IsCalm around saying verdict
    → (number ≡ number_of status.Done) ⊎ (number ≡ number_of status.NoMemory)
    ⊎ ((number ≡ number_of status.ScriptRefused) × IsSomeAnd around.text (λ text. (line : ℕ) × HasPatternLine text line))
    ⊎ ((number ≡ number_of status.ActivityFailed) × TellsRefused around saying verdict)
