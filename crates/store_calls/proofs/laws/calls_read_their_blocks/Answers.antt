use Rattle.store_calls.proofs.CallLaws.{call_asks}
use Rattle.store_calls.proofs.laws.calls_read_their_blocks.Goals as goal

pub returns : goal.returns
returns c = call_asks
