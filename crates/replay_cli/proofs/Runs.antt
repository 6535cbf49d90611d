-- What a run of all phases comes to.
use Rattle.std.proofs.Common.{◌≡◌, ℕ, Bool, false, List, [], length, refl, sym, ap, subst}
use Rattle.std.specs.Prelude.{Option, Some, Result, Ok, Err, IfSome}
use Rattle.bucket_core.specs.Contents.{nothing}
use Rattle.world_core.specs.Keeping.{IsFull}
use Rattle.world_core.specs.Worlds.{IsJournal, IsOfBytes, WorldView}
use Rattle.world_core.specs.declared.entry.Entry.{Entry}
use Rattle.script_core.specs.Lawful.{IsLawfulScript}
use Rattle.call_verdicts.specs.lifecycle_core.specs.Guarantees.{IsGuaranteedJournal}
use Rattle.call_verdicts.specs.lifecycle_core.specs.InLine.{IsInLine}
use Rattle.call_verdicts.specs.lifecycle_core.specs.Setting.{Setting}
use Rattle.call_verdicts.specs.lifecycle_core.proofs.phases.FirstPhases.{none_in_line}
use Rattle.call_verdicts.specs.lifecycle_core.proofs.Assembling.{none_guaranteed}
use Rattle.call_verdicts.specs.script_running.specs.Tasks.{is_full_came}
use Rattle.call_verdicts.specs.script_running.specs.declared.sight.Sight.{Sight}
use Rattle.script_core.specs.declared.script.Script.{Script}
use Rattle.line_running.specs.Progress.{Reached, RunCame}
use Rattle.call_verdicts.specs.Noted.{tells_full}
use Rattle.replay_cli.specs.Endings.{EndsReport}
use Rattle.call_verdicts.specs.Verdicts.{IsRun, IsWholeRun}
use Rattle.call_verdicts.specs.script_running.specs.declared.came.Broken.{Broken}
use Rattle.call_verdicts.specs.script_running.specs.declared.came.Broken.TheVariants as broken
use Rattle.call_verdicts.specs.report_lines.specs.declared.lines.Lines.{Lines}
use Rattle.call_verdicts.specs.declared.verdict.Verdict.{Verdict}
use Rattle.call_verdicts.specs.declared.verdict.Verdict.TheVariants as verdict
use Rattle.call_verdicts.specs.report_lines.specs.Telling.{AreLinesOf}
use Rattle.replay_cli.proofs.WholeRuns.{all_told, full_run, whole_run}
use Rattle.line_running.proofs.PhaseLists.{guaranteed_run, run_in_line, run_so_far, short_run}

pub kept_by : (tick other : ℕ) (journal : List Entry) → tick ≡ other → IsJournal tick journal → IsJournal other journal
kept_by tick other journal same kept = subst (λ (t : ℕ). IsJournal t journal) same kept

pub kept_of : {B : Type 0} (one other : WorldView B) → one ≡ other → IsJournal one.tick one.journal → IsJournal other.tick other.journal
kept_of {B} one other same kept = subst (λ (w : WorldView B). IsJournal w.tick w.journal) same kept

-- the report of a whole run does not tell that the journal is full
ends_unfull : (script : Script) (journal : List Entry) (lines : Lines) (v : Verdict) → EndsReport script journal lines v → tells_full v ≡ false
ends_unfull script journal lines (verdict.Report text as_asked) ends = refl
ends_unfull script journal lines verdict.NoMemory ends = refl
ends_unfull script journal lines other ends = absurd ends

-- a report over a journal that is told by another name
pub ends_over : {P : Type 0} (script : Script) (one other : List Entry) (lines : Lines) (v : Verdict) → one ≡ other → (P → EndsReport script one lines v) → P → EndsReport script other lines v
ends_over script one other lines v same ends holds = subst (λ (es : List Entry). EndsReport script es lines v) same (ends holds)

-- the verdict tells what broke the run off
pub full_told : (script : Script) (journal : List Entry) (report : Lines) (r : Result (Unit {0}) Broken) (v : Verdict)
    → (r ≡ Ok tt → EndsReport script journal report v) → (r ≡ Err broken.Full → v ≡ verdict.Full report.text) → (r ≡ Err broken.NoMemory → v ≡ verdict.NoMemory) → is_full_came r ≡ tells_full v
full_told script journal report (Ok done) v whole filled short = sym (ends_unfull script journal report v (whole refl))
full_told script journal report (Err broken.Full) v whole filled short = sym (ap tells_full (filled refl))
full_told script journal report (Err broken.NoMemory) v whole filled short = sym (ap tells_full (short refl))

-- a run that came to its end, and its report
run_ended : (setting : Setting) (gateways : List Sight) (journal : List Entry) (report : Lines) (v : Verdict) → IsLawfulScript setting.script → IsJournal setting.script.rules.tick.ms journal → IsOfBytes journal
    → Reached AreLinesOf setting (length setting.script.phases) gateways journal report → EndsReport setting.script journal report v → IsRun IsInLine setting (Some nothing) ⊥ (Some journal) v
run_ended setting gateways journal report (verdict.Report text as_asked) lawful kept bytes came (same, breach, breaks, is) = let told = all_told AreLinesOf setting gateways journal report came in (
  refl,
  (
    run_in_line AreLinesOf setting gateways journal report (Ok tt) kept came,
    subst (λ (b : Bool). IsWholeRun setting b text.items journal) (sym same) (whole_run AreLinesOf setting gateways journal report report.as_asked report.text.items text.items lawful kept bytes came told.flag told.text breach breaks is),
  ),
)
run_ended setting gateways journal report verdict.NoMemory lawful kept bytes came ends = (
  run_in_line AreLinesOf setting gateways journal report (Ok tt) kept came,
  guaranteed_run setting journal lawful kept bytes (run_so_far AreLinesOf setting (length setting.script.phases) gateways journal report came),
)
run_ended setting gateways journal report other lawful kept bytes came ends = absurd ends

-- what the run came to has its cause
run_by : (setting : Setting) (gateways : List Sight) (journal : List Entry) (report : Lines) (r : Result (Unit {0}) Broken) (v : Verdict) → IsLawfulScript setting.script → IsJournal setting.script.rules.tick.ms journal → IsOfBytes journal
    → (r ≡ Err broken.Full → IsFull journal) → RunCame AreLinesOf setting gateways journal report r
    → (r ≡ Ok tt → EndsReport setting.script journal report v) → (r ≡ Err broken.Full → v ≡ verdict.Full report.text) → (r ≡ Err broken.NoMemory → v ≡ verdict.NoMemory)
    → IsRun IsInLine setting (Some nothing) ⊥ (Some journal) v
run_by setting gateways journal report (Ok done) v lawful kept bytes full came whole filled short = run_ended setting gateways journal report v lawful kept bytes came (whole refl)
run_by setting gateways journal report (Err broken.Full) v lawful kept bytes full came whole filled short =
    subst (IsRun IsInLine setting (Some nothing) ⊥ (Some journal)) (sym (filled refl)) (refl, (run_in_line AreLinesOf setting gateways journal report (Err broken.Full) kept came, full_run AreLinesOf setting came.0 journal report report.as_asked report.text.items lawful kept bytes (full refl) came.1 came.2 came.2.report_is.flag came.2.report_is.text))
run_by setting gateways journal report (Err broken.NoMemory) v lawful kept bytes full came whole filled short =
    subst (IsRun IsInLine setting (Some nothing) ⊥ (Some journal)) (sym (short refl)) (run_in_line AreLinesOf setting gateways journal report (Err broken.NoMemory) kept came, guaranteed_run setting journal lawful kept bytes (short_run AreLinesOf setting came.0 journal report came.1))

pub run_told : (setting : Setting) (gateways : List Sight) (journal : List Entry) (report : Lines) (r : Result (Unit {0}) Broken) (v : Verdict) (handed : Option (List Entry)) → handed ≡ Some journal → IsLawfulScript setting.script → IsJournal setting.script.rules.tick.ms journal → IsOfBytes journal
    → (r ≡ Err broken.Full → IsFull journal) → RunCame AreLinesOf setting gateways journal report r
    → (r ≡ Ok tt → EndsReport setting.script journal report v) → (r ≡ Err broken.Full → v ≡ verdict.Full report.text) → (r ≡ Err broken.NoMemory → v ≡ verdict.NoMemory)
    → IsRun IsInLine setting (Some nothing) ⊥ handed v
run_told setting gateways journal report r v handed is lawful kept bytes full came whole filled short =
    subst (λ (h : Option (List Entry)). IsRun IsInLine setting (Some nothing) ⊥ h v) (sym is) (run_by setting gateways journal report r v lawful kept bytes full came whole filled short)

-- nothing was done, for want of memory
pub none_told : (setting : Setting) (journal : List Entry) (v : Verdict) (handed : Option (List Entry)) → handed ≡ Some journal → journal ≡ [] → v ≡ verdict.NoMemory → IsRun IsInLine setting (Some nothing) ⊥ handed v
none_told setting journal v handed is none short =
    let Holds : List Entry → Type 0 = λ entries. IsInLine setting entries × IsGuaranteedJournal setting entries in
    subst (IsRun IsInLine setting (Some nothing) ⊥ handed) (sym short) (subst (λ (h : Option (List Entry)). IfSome h Holds) (sym is) (subst Holds (sym none) (none_in_line setting, none_guaranteed setting)))
