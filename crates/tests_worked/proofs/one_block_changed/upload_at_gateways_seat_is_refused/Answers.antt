use Rattle.tests_worked.proofs.one.OneRefused.{seat_refused}
use Rattle.tests_worked.proofs.one_block_changed.upload_at_gateways_seat_is_refused.Goals as goal

pub returns : goal.returns
returns c = seat_refused
