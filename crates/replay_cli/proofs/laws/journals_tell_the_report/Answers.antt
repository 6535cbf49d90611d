use Rattle.call_verdicts.proofs.OneReport.{full_is_not_whole, full_journal_tells, journal_tells}
use Rattle.replay_cli.proofs.laws.journals_tell_the_report.Goals as goal

pub returns : goal.returns
returns c = record {
  whole = λ setting journal one other text also. journal_tells setting journal one other text also;
  full = full_journal_tells;
  apart = full_is_not_whole;
}
