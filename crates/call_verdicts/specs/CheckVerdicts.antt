-- The verdict of a check, by its end.
use Rattle.std.specs.Prelude.{ℕ, Option, Some, None, Result, Ok, Err}
use Rattle.block_content.specs.Checked.{checked_series, checked_samples}
use Rattle.block_content.specs.declared.checked.Checked.{Checked}
use Rattle.block_loading.specs.declared.load_refusal.LoadRefusal.{LoadRefusal}
use Rattle.block_loading.specs.declared.load_refusal.LoadRefusal.TheVariants as end
use Rattle.call_verdicts.specs.Checks.{cause_number}
use Rattle.report_lines.specs.declared.check_outcome.CheckOutcome.TheVariants.{Passed, Refused}
use Rattle.call_verdicts.specs.declared.verdict.Verdict.{Verdict}
use Rattle.call_verdicts.specs.declared.verdict.Verdict.TheVariants as verdict

-- a refusal that has a number, or want of memory
abbrev pub refused_for : ℕ → Option ℕ → Verdict
refused_for block (Some number) = verdict.Checked block (Refused number)
refused_for block None = verdict.NoMemory

abbrev pub verdict_on : ℕ → Result Checked LoadRefusal → Verdict
verdict_on block (Ok checked) = verdict.Checked block (Passed (checked_series checked) (checked_samples checked))
verdict_on block (Err (end.Refused refusal)) = refused_for block (cause_number refusal)
verdict_on block (Err end.ShelfFault) = verdict.SiteFault
verdict_on block (Err end.NoMemory) = verdict.NoMemory
