use Rattle.std.proofs.Common.{arith}
use Rattle.store_calls.specs.BlockRuns.{most_reads}
use Rattle.store_calls.proofs.block_call.BlockCall.start.Goals as goal

pub returns-clause-few : goal.returns-clause-few
unfolding most_reads
returns-clause-few c = omega arith
