use Rattle.tests_worked.proofs.one.OneRefused.{index_first_refused}
use Rattle.tests_worked.proofs.one_block_changed.index_before_segment_is_refused.Goals as goal

pub returns : goal.returns
returns c = index_first_refused
