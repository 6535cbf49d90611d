use Rattle.tests_worked.proofs.one.NoCause as row
use Rattle.tests_worked.proofs.one.OneUnbroken.{lost_is_only_cause}
use Rattle.tests_worked.proofs.lost_index.lost_index_has_no_other_cause.Goals as goal

pub returns : goal.returns
returns c = record { unwell = row.not_well; lie = lost_is_only_cause; other_put = row.other_put; other_mark = row.other_mark; no_sync = row.no_sync; other_read = row.other_read; no_compaction = row.no_compaction }
