-- What a report says at its end.
use Rattle.std.specs.Prelude.{◌≡◌, ◌++◌, List, Option}
use Rattle.world_core.specs.declared.entry.Entry.{Entry}
use Rattle.script_core.specs.declared.script.Script.{Script}
use Rattle.call_verdicts.specs.breach_finding.specs.declared.found.Breach.{Breach}
use Rattle.call_verdicts.specs.report_lines.specs.BreachLines.{HasBreach, breach_text}
use Rattle.call_verdicts.specs.report_lines.specs.declared.lines.Lines.{Lines}
use Rattle.call_verdicts.specs.declared.verdict.Verdict.{Verdict}
use Rattle.call_verdicts.specs.declared.verdict.Verdict.TheVariants as verdict

-- The report has these lines, and behind them that of the breach; or memory was wanted for it.
abbrev pub EndsReport : Script → List Entry → Lines → Verdict → Type 0
EndsReport script journal lines (verdict.Report text as_asked) =
    (as_asked ≡ lines.as_asked) × (breach : Option Breach) × HasBreach script journal breach
    × (text.items ≡ lines.text.items ++ breach_text breach)
EndsReport script journal lines verdict.NoMemory = Unit {0}
EndsReport script journal lines other = ⊥
