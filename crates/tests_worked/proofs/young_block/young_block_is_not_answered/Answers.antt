use Rattle.std.proofs.Common.{lit<}
use Rattle.tests_worked.specs.YoungBlock as young
use Rattle.tests_worked.proofs.young.YoungAnswers.{none_given, none_exact, not_settled}
use Rattle.tests_worked.proofs.young_block.young_block_is_not_answered.Goals as goal

pub returns : goal.returns
returns c = record {
  given = none_given young.early young.late;
  exact = none_exact young.early;
  unsettled = not_settled young.journal young.early (lit< tt);
  turned_given = none_given young.early_turned young.late_turned;
  turned_exact = none_exact young.early_turned;
  turned_unsettled = not_settled young.journal_turned young.early_turned (lit< tt);
}
