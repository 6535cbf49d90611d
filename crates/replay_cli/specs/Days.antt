-- The run of the generated day, over a bucket of its own. A summary takes the place of its report.
use Rattle.std.specs.Prelude.{◌≡◌, ◌⊎◌, ℕ, Bool, List, [], ◌++◌, Option, Some, None, IsSomeAnd, option_map}
use Rattle.bucket_core.specs.MemoryBucket.{bucket_told}
use Rattle.bucket_core.specs.declared.memory_bucket.MemoryBucket.{MemoryBucket}
use Rattle.world_core.specs.Keeping.{IsFull}
use Rattle.world_core.specs.Standing.{IsHonest}
use Rattle.world_core.specs.Worlds.{IsOfBytes, failed_count}
use Rattle.world_core.specs.declared.entry.Entry.{Entry}
use Rattle.script_core.specs.Lawful.{IsLawfulScript}
use Rattle.script_core.specs.Spelling.{Spells}
use Rattle.script_core.specs.declared.script.Script.{Script}
use Rattle.call_verdicts.specs.lifecycle_core.specs.Guarantees.{IsGuaranteedJournal}
use Rattle.call_verdicts.specs.lifecycle_core.specs.InLine.{IsInLine}
use Rattle.call_verdicts.specs.lifecycle_core.specs.Setting.{setting_of}
use Rattle.call_verdicts.specs.breach_finding.specs.declared.found.Breach.{Breach}
use Rattle.call_verdicts.specs.report_lines.specs.BreachLines.{HasBreach, breach_text}
use Rattle.call_verdicts.specs.report_lines.specs.Telling.{tasks_of}
use Rattle.generated_day.specs.Day.{day_text}
use Rattle.call_verdicts.specs.report_lines.specs.Summed.{IsDayText}
use Rattle.call_verdicts.specs.report_lines.specs.Tallies.{AreTallied}
use Rattle.call_verdicts.specs.report_lines.specs.declared.tally.Tally.{Tally}
use Rattle.script_workers.specs.declared.task.Task.{Task}
use Rattle.call_verdicts.specs.script_running.specs.Outcomes.{Outcome}
use Rattle.run_notes.specs.declared.run_note.RunNote.{RunNote}
use Rattle.call_verdicts.specs.Noted.{IsNoted, met}
use Rattle.call_verdicts.specs.Verdicts.{Around, IfShort, IsFullRun, IsTrusted, IsWholeRun, status_of}
use Rattle.call_verdicts.specs.declared.status.Status.TheVariants as status
use Rattle.call_verdicts.specs.declared.verdict.Verdict.{Verdict}
use Rattle.call_verdicts.specs.declared.verdict.Verdict.TheVariants as verdict
use Rattle.replay_cli.specs.CalmCalls.{MeetsLimit}

-- ---- the run

-- The run of the script was done to its end. What is written in place of its report is what the report adds up to, with the line of
-- the journal's breach behind it.
pub record IsWholeDay (script : Script) (as_asked : Bool) (text : List ℕ) (journal : List Entry) : Type 0 where
  pub told : List ℕ
  pub run : IsWholeRun (setting_of script) as_asked told journal
  pub summed : List ℕ
  pub sums : IsDayText script (tasks_of script.phases) run.report.outcomes as_asked summed
  pub text_is : text ≡ summed ++ breach_text run.breach

-- what the run of the script comes to, one task after another
abbrev pub IsDay : Script → List Entry → Verdict → Type 0
IsDay script entries (verdict.Report text as_asked) = IsInLine (setting_of script) entries × IsWholeDay script as_asked text.items entries
IsDay script entries (verdict.Full lines) = IsInLine (setting_of script) entries × (told : List ℕ) × IsFullRun (setting_of script) told entries × (lines.items ≡ [])
IsDay script entries verdict.NoMemory = IsInLine (setting_of script) entries × IsGuaranteedJournal (setting_of script) entries
IsDay script entries other = ⊥

-- Where the journal is trusted for the day's script, and not full, the day ends as asked, unless there is no memory, or a task met a
-- limit. No operation of a day fails.
abbrev pub EndsDayCalmly : Script → List Entry → Verdict → Type 0
EndsDayCalmly script entries v =
    IsTrusted (setting_of script) entries → ¬ IsFull entries
    → (status_of v ≡ status.Done) ⊎ (v ≡ verdict.NoMemory)
    ⊎ ((status_of v ≡ status.ActivityFailed) × (told : List ℕ) × MeetsLimit (setting_of script) told entries)

-- The run of the day with this number comes to the verdict: of the script that the day's text spells, over a bucket that tells what it
-- holds and never fails. Where memory is wanted, that may be before the script is made.
pub record IsDayRun (number : ℕ) (entries : List Entry) (v : Verdict) : Type 0 where
  pub honest : IsHonest entries
  pub bytes : IsOfBytes entries
  pub unfailed : failed_count entries ≡ 0
  pub came :
      ((v ≡ verdict.NoMemory) × (entries ≡ []))
      ⊎ ((script : Script) × Spells (day_text number) script × IsLawfulScript script × IsDay script entries v × EndsDayCalmly script entries v)

-- The note of a day's run is of the journal that is handed back, and of the answers by which the call comes to its verdict. The bucket
-- does not tell what it was asked, and is not handed back.
abbrev pub IsDayNoted : Verdict → Option (List Entry) → Option (RunNote MemoryBucket) → Type 0
IsDayNoted v journal note = IsNoted met bucket_told v journal (option_map (λ n. n.world.value.bucket) note) note

-- ---- the call

-- the generated day was run; nothing was read, and the site was asked for nothing
pub record IsDayDone (number : ℕ) (around : Around) (v : Verdict) : Type 0 where
  pub run : IsSomeAnd around.journal (λ entries. IsDayRun number entries v)
  pub unread : around.left ≡ around.text
  pub unasked : around.unasked
  pub short : IfShort v around.unfailed

-- ---- parts

-- the text of the tally, with the line of the journal's breach behind it; or memory was wanted
abbrev pub EndsDay : Script → List Entry → Tally → Verdict → Type 0
EndsDay script journal tally (verdict.Report text as_asked) =
    (as_asked ≡ tally.as_asked) × (summed : List ℕ)
    × ((tasks : List Task) (outcomes : List Outcome) → AreTallied tally script tasks outcomes → IsDayText script tasks outcomes tally.as_asked summed)
    × (breach : Option Breach) × HasBreach script journal breach × (text.items ≡ summed ++ breach_text breach)
EndsDay script journal tally verdict.NoMemory = Unit {0}
EndsDay script journal tally other = ⊥

-- the full journal is told, and no line
abbrev pub IsBareFull : Verdict → Type 0
IsBareFull (verdict.Full lines) = lines.items ≡ []
IsBareFull other = ⊥
