use Rattle.tests_worked.proofs.one.OneGuaranteed as row
use Rattle.tests_worked.proofs.lost_index.lost_index_is_explained.Goals as goal

pub returns : goal.returns
returns c = record { explained = row.lost_explained; guaranteed = row.lost_guaranteed }
