use Rattle.tests_worked.proofs.expired.ExpiredBreach as row
use Rattle.tests_worked.proofs.expired_block.late_query_is_the_breach.Goals as goal

pub returns : goal.returns
returns c = record { breach = row.is_breach; explained = row.explained; only = row.only_cause }
