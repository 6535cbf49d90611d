-- What a run of the generated day comes to.
use Rattle.std.proofs.Common.{◌≡◌, ℕ, Bool, true, false, List, [], ◌++◌, length, take, refl, sym, ◌∙◌, ap, subst, inl, inr}
use Rattle.std.specs.Prelude.{Option, Some, None, Result, Ok, Err}
use Rattle.std.specs.List.{list_all}
use Rattle.bucket_core.specs.MemoryBucket.{bucket_told}
use Rattle.bucket_core.specs.Told.{BucketTold}
use Rattle.bucket_core.specs.declared.memory_bucket.MemoryBucket.{MemoryBucket}
use Rattle.world_core.specs.Keeping.{IsFull}
use Rattle.world_core.specs.Operations.{PutsBytes, ShowsBytes}
use Rattle.world_core.specs.Standing.{Tells, stands}
use Rattle.world_core.specs.Worlds.{IsJournal, IsOfBytes, IsWorld, WorldGoesOn, WorldView, failed_count}
use Rattle.world_core.specs.declared.entry.Entry.{Entry}
use Rattle.world_core.proofs.Growing.{Each-none}
use Rattle.script_core.specs.Lawful.{IsLawfulScript}
use Rattle.script_core.specs.declared.script.Script.{Script}
use Rattle.call_verdicts.specs.lifecycle_core.specs.Setting.{setting_of}
use Rattle.call_verdicts.specs.script_running.specs.Outcomes.{Outcome, is_as_asked}
use Rattle.call_verdicts.specs.script_running.specs.Shelves.{setting_by}
use Rattle.call_verdicts.specs.script_running.specs.Tasks.{is_full_came}
use Rattle.call_verdicts.specs.script_running.specs.declared.came.Broken.{Broken}
use Rattle.call_verdicts.specs.script_running.specs.declared.came.Broken.TheVariants as broken
use Rattle.call_verdicts.specs.script_running.specs.declared.sight.Sight.{Sight}
use Rattle.call_verdicts.specs.report_lines.specs.BreachLines.{breach_text}
use Rattle.call_verdicts.specs.report_lines.specs.Telling.{report_of, tasks_of}
use Rattle.line_running.specs.Progress.{Reached, RunCame}
use Rattle.line_running.proofs.PhaseLists.{guaranteed_run, run_in_line, run_so_far, short_run}
use Rattle.call_verdicts.specs.report_lines.specs.Summed.{IsDayText}
use Rattle.call_verdicts.specs.report_lines.specs.Tallies.{AreTallied}
use Rattle.call_verdicts.specs.report_lines.specs.declared.tally.Tally.{Tally}
use Rattle.call_verdicts.specs.breach_finding.specs.declared.found.Breach.{Breach}
use Rattle.run_notes.specs.declared.run_note.RunNote.{RunNote}
use Rattle.call_verdicts.specs.Kept.{IsTrueOfStore}
use Rattle.call_verdicts.specs.Noted.{IsNoted, met, tells_full}
use Rattle.call_verdicts.proofs.HandedBack.{true_of}
use Rattle.call_verdicts.specs.declared.verdict.Verdict.{Verdict}
use Rattle.call_verdicts.specs.declared.verdict.Verdict.TheVariants as verdict
use Rattle.replay_cli.specs.Days.{EndsDay, EndsDayCalmly, IsBareFull, IsDay, IsDayNoted, IsDayRun}
use Rattle.replay_cli.proofs.Calm.{limit_met}
use Rattle.replay_cli.proofs.WholeRuns.{all_told, full_run, whole_run_of}

-- the summary of a whole day does not tell that the journal is full
ends_unfull : (script : Script) (journal : List Entry) (tally : Tally) (v : Verdict) → EndsDay script journal tally v → tells_full v ≡ false
ends_unfull script journal tally (verdict.Report text as_asked) ends = refl
ends_unfull script journal tally verdict.NoMemory ends = refl
ends_unfull script journal tally other ends = absurd ends

bare_told : (v : Verdict) → IsBareFull v → tells_full v ≡ true
bare_told (verdict.Full lines) bare = refl
bare_told other bare = absurd bare

-- memory was wanted before the script was made
pub short_day : (number : ℕ) (entries : List Entry) → entries ≡ [] → IsDayRun number entries verdict.NoMemory
short_day number entries none =
    subst (λ (es : List Entry). IsDayRun number es verdict.NoMemory) (sym none) (record { honest = Each-none (λ before e. Tells (stands before) e.op e.reply); bytes = Each-none (λ before e. PutsBytes e.op × ShowsBytes e.reply); unfailed = refl; came = inl (refl, refl) })

module _ (script : Script) (lawful : IsLawfulScript script) (gateways : List Sight) (journal : List Entry) (kept : IsJournal script.rules.tick.ms journal) (bytes : IsOfBytes journal) (tally : Tally) where
  -- the run was done to its end
  whole_day : Reached AreTallied (setting_by script []) (length script.phases) gateways journal tally → (v : Verdict) → EndsDay script journal tally v → IsDay script journal v
  whole_day r (verdict.Report text as_asked) (same, summed, sums, breach, breaks, is) =
      let setting = setting_by script [] in
      let told = all_told AreTallied setting gateways journal tally r in
      let report = report_of script (tasks_of script.phases) r.outcomes in
      let whole = whole_run_of AreTallied setting gateways journal tally as_asked report (report ++ breach_text breach) lawful kept bytes r (same ∙ told.flag) refl breach breaks refl in
      let text_of : IsDayText script (tasks_of script.phases) r.outcomes as_asked summed =
      subst (λ (b : Bool). IsDayText script (tasks_of script.phases) r.outcomes b summed) (sym same) (sums (tasks_of script.phases) r.outcomes told) in (
        run_in_line AreTallied setting gateways journal tally (Ok tt) kept r,
        record {
          told = report ++ breach_text breach;
          run = whole.0;
          summed = summed;
          sums = subst (λ (os : List Outcome). IsDayText script (tasks_of script.phases) os as_asked summed) (sym whole.1) text_of;
          text_is = is ∙ ap (λ (b : Option Breach). summed ++ breach_text b) (sym whole.2);
        },
      )
  whole_day r verdict.NoMemory ends =
      let setting = setting_by script [] in (
        run_in_line AreTallied setting gateways journal tally (Ok tt) kept r,
        guaranteed_run setting journal lawful kept bytes (run_so_far AreTallied setting (length script.phases) gateways journal tally r),
      )
  whole_day r other ends = absurd ends

  -- the full journal broke it off
  full_day : IsFull journal → RunCame AreTallied (setting_by script []) gateways journal tally (Err broken.Full) → (v : Verdict) → IsBareFull v → IsDay script journal v
  full_day full (place, below, b) (verdict.Full lines) bare =
      let setting = setting_by script [] in
      let report = report_of script (tasks_of (take place script.phases)) b.outcomes in (
        run_in_line AreTallied setting gateways journal tally (Err broken.Full) kept (place, below, b),
        report,
        full_run AreTallied setting place journal tally (list_all is_as_asked b.outcomes) report lawful kept bytes full below b refl refl,
        bare,
      )
  full_day full came other bare = absurd bare

  pub day_by : (r : Result (Unit {0}) Broken) (v : Verdict) → (r ≡ Err broken.Full → IsFull journal) → RunCame AreTallied (setting_by script []) gateways journal tally r
      → (r ≡ Ok tt → EndsDay script journal tally v) → (r ≡ Err broken.Full → IsBareFull v) → (r ≡ Err broken.NoMemory → v ≡ verdict.NoMemory) → IsDay script journal v
  day_by (Ok done) v full came whole filled short = whole_day came v (whole refl)
  day_by (Err broken.Full) v full came whole filled short = full_day (full refl) came v (filled refl)
  day_by (Err broken.NoMemory) v full came whole filled short =
      let setting = setting_by script [] in
      subst (IsDay script journal) (sym (short refl)) (run_in_line AreTallied setting gateways journal tally (Err broken.NoMemory) kept came, guaranteed_run setting journal lawful kept bytes (short_run AreTallied setting came.0 journal tally came.1))

-- a trusted day ends as asked, or some task met a limit
pub calm_day : (script : Script) (entries : List Entry) (v : Verdict) → failed_count entries ≡ 0 → IsDay script entries v → EndsDayCalmly script entries v
calm_day script entries (verdict.Report text true) none day = λ trusted room. inl refl
calm_day script entries (verdict.Report text false) none day = λ trusted room. inr (inr (refl, day.1.told, limit_met (setting_of script) day.1.told entries trusted none day.1.run))
calm_day script entries (verdict.Full lines) none day = λ trusted room. absurd (room day.2.full)
calm_day script entries verdict.NoMemory none day = λ trusted room. inr (inl refl)
calm_day script entries other none day = absurd day

-- a day over a journal that is told by another name
pub ends_over : {P : Type 0} (script : Script) (one other : List Entry) (tally : Tally) (v : Verdict) → one ≡ other → (P → EndsDay script one tally v) → P → EndsDay script other tally v
ends_over script one other tally v same ends holds = subst (λ (es : List Entry). EndsDay script es tally v) same (ends holds)

pub day_over : (script : Script) (one other : List Entry) (v : Verdict) → other ≡ one → IsDay script one v → IsDay script other v
day_over script one other v same day = subst (λ (es : List Entry). IsDay script es v) (sym same) day

-- ---- the note

-- the verdict tells what broke the run off
pub day_full_told : (script : Script) (journal : List Entry) (tally : Tally) (r : Result (Unit {0}) Broken) (v : Verdict)
    → (r ≡ Ok tt → EndsDay script journal tally v) → (r ≡ Err broken.Full → IsBareFull v) → (r ≡ Err broken.NoMemory → v ≡ verdict.NoMemory) → is_full_came r ≡ tells_full v
day_full_told script journal tally (Ok done) v whole filled short = sym (ends_unfull script journal tally v (whole refl))
day_full_told script journal tally (Err broken.Full) v whole filled short = sym (bare_told v (filled refl))
day_full_told script journal tally (Err broken.NoMemory) v whole filled short = sym (ap tells_full (short refl))

-- no run began
pub unnoted_day : (entries : List Entry) → entries ≡ [] → IsDayNoted verdict.NoMemory (Some entries) None
unnoted_day entries none = (none, refl, tt)

pub day_noted : (v : Verdict) (entries : List Entry) (bucket : MemoryBucket) (note : Option (RunNote MemoryBucket)) → IsNoted met bucket_told v (Some entries) (Some bucket) note → IsDayNoted v (Some entries) note
day_noted v entries bucket None noted = (noted.0, noted.1, tt)
day_noted v entries bucket (Some n) noted = record { journal_is = noted.journal_is; store_is = refl; full = noted.full; short = noted.short; asks = noted.asks }

-- ---- what was left

pub true_parts : {B : Type 0} (tells : B → BucketTold) (world : WorldView B) (a : List Entry) (b : B) → a ≡ world.journal → b ≡ world.bucket → IsWorld tells world → IsTrueOfStore tells a b
true_parts {B} tells world a b journal bucket is =
    subst (λ (x : List Entry). IsTrueOfStore tells x b) (sym journal) (subst (λ (y : B). IsTrueOfStore tells world.journal y) (sym bucket) (true_of tells world is))

-- a quiet bucket has not failed
pub never_failed : {B : Type 0} (tells : B → BucketTold) (old new : WorldView B) (a : List Entry) → old.journal ≡ [] → a ≡ new.journal → WorldGoesOn tells old new → (tells old.bucket).quiet → failed_count a ≡ 0
never_failed tells old new a fresh is on q = ap failed_count is ∙ (on.calm q).1 ∙ ap failed_count fresh
