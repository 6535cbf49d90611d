use Rattle.store_calls.proofs.CallLaws.{call_keeps}
use Rattle.store_calls.proofs.laws.caches_are_of_reads.Goals as goal

pub returns : goal.returns
returns c = call_keeps
