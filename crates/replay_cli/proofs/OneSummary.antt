-- A journal tells the summary of a generated day.
use Rattle.std.proofs.Common.{◌≡◌, ℕ, Bool, true, false, List, ◌++◌, Option, sym, ◌∙◌, ap, subst}
use Rattle.std.specs.List.{list_all}
use Rattle.world_core.specs.declared.entry.Entry.{Entry}
use Rattle.script_core.specs.Lawful.{IsLawfulScript}
use Rattle.script_core.specs.declared.script.Script.{Script}
use Rattle.script_workers.specs.declared.task.Task.{Task}
use Rattle.call_verdicts.specs.lifecycle_core.specs.Setting.{setting_of}
use Rattle.call_verdicts.specs.lifecycle_core.specs.Tasks.{End}
use Rattle.call_verdicts.specs.lifecycle_core.proofs.phases.OneEnding.{ends_tell}
use Rattle.call_verdicts.specs.script_running.specs.Outcomes.{Outcome, PhasesCame, is_as_asked}
use Rattle.call_verdicts.specs.breach_finding.specs.declared.found.Breach.{Breach}
use Rattle.call_verdicts.specs.breach_finding.proofs.OneAnswer.{one_answer}
use Rattle.generated_day.specs.Summaries.{summary_text}
use Rattle.generated_day.specs.declared.summary.Summary.{Summary}
use Rattle.call_verdicts.specs.report_lines.specs.BreachLines.{breach_text}
use Rattle.call_verdicts.specs.report_lines.specs.Summed.{IsDayText, IsSummary}
use Rattle.call_verdicts.specs.report_lines.specs.Telling.{tasks_of}
use Rattle.replay_cli.specs.Days.{IsWholeDay}
use Rattle.call_verdicts.proofs.OneReport.{phases_once}

summary_once : (script : Script) (outcomes : List Outcome) (one other : Summary) → IsSummary script outcomes one → IsSummary script outcomes other → one ≡ other
summary_once script outcomes one other a b = λ i. record {
  blocks = (a.blocks ∙ sym b.blocks) i;
  series = (a.series ∙ sym b.series) i;
  samples = (a.samples ∙ sym b.samples) i;
  uploaded = (a.uploaded ∙ sym b.uploaded) i;
  rounds = (a.rounds ∙ sym b.rounds) i;
  compacted = (a.compacted ∙ sym b.compacted) i;
  collected = (a.collected ∙ sym b.collected) i;
  cleaned = (a.cleaned ∙ sym b.cleaned) i;
  partials = (a.partials ∙ sym b.partials) i;
  first = (a.first ∙ sym b.first) i;
  second = (a.second ∙ sym b.second) i;
  third = (a.third ∙ sym b.third) i;
}

text_once : (script : Script) (tasks : List Task) (outcomes : List Outcome) (as_asked : Bool) (one other : List ℕ) → IsDayText script tasks outcomes as_asked one → IsDayText script tasks outcomes as_asked other → one ≡ other
text_once script tasks outcomes true one other (s, is, text) (t, so, also) = text ∙ ap summary_text (summary_once script outcomes s t is so) ∙ sym also
text_once script tasks outcomes false one other a b = a ∙ sym b

pub day_tells : (script : Script) (journal : List Entry) (as_asked also : Bool) (text other : List ℕ) → IsLawfulScript script → IsWholeDay script as_asked text journal → IsWholeDay script also other journal → (as_asked ≡ also) × (text ≡ other)
day_tells script journal as_asked also text other lawful a b =
    let tasks = tasks_of script.phases in
    let ends = ends_tell (setting_of script) journal a.run.ends b.run.ends a.run.run b.run.run a.run.finished b.run.finished in
    let outcomes = phases_once script 0 script.phases a.run.ends a.run.report.outcomes b.run.report.outcomes a.run.report.came
    (subst (λ (es : List (List (List End))). PhasesCame script 0 script.phases es b.run.report.outcomes) (sym ends) b.run.report.came) in
    let flags = a.run.report.flag ∙ ap (list_all is_as_asked) outcomes ∙ sym b.run.report.flag in
    let sums = subst (λ (flag : Bool). IsDayText script tasks a.run.report.outcomes flag b.summed) (sym flags) (subst (λ (os : List Outcome). IsDayText script tasks os also b.summed) (sym outcomes) b.sums) in
    let summed = text_once script tasks a.run.report.outcomes as_asked a.summed b.summed a.sums sums in
    let breach = one_answer (setting_of script) script.rules.tick.ms journal lawful (a.run.run).kept a.run.breach b.run.breach (a.run.breaks (setting_of script).shelf) (b.run.breaks (setting_of script).shelf) in (
      flags,
      a.text_is ∙ ap (λ (l : List ℕ). l ++ breach_text a.run.breach) summed ∙ ap (λ (o : Option Breach). b.summed ++ breach_text o) breach ∙ sym b.text_is,
    )
