use Rattle.tests_worked.proofs.one.OneStrict.{slow_sync, old_view}
use Rattle.tests_worked.proofs.one_strict.strict_rules_are_broken.Goals as goal

pub returns : goal.returns
returns c = record { sync = slow_sync; view = old_view }
