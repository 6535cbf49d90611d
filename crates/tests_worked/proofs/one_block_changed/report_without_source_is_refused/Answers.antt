use Rattle.tests_worked.proofs.one.OneOutcomes.{source_is_printed}
use Rattle.tests_worked.proofs.one_block_changed.report_without_source_is_refused.Goals as goal

pub returns : goal.returns
returns c = source_is_printed
