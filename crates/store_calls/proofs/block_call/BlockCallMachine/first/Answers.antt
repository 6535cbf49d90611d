use Rattle.std.proofs.Common.{◌*◌, refl}
use Rattle.store_calls.specs.BlockRuns.{cache_of}
use Rattle.store_calls.specs.WorkStates.{most}
use Rattle.store_calls.proofs.CallSteps.{begins, begins_fall}
use Rattle.store_calls.proofs.block_call.BlockCallMachine.first.Goals as goal

pub returns-clause-goes_on : goal.returns-clause-goes_on
returns-clause-goes_on c =
    begins c.args.self.now c.args.self.now c.act.new.self (9 * most * most) c.begin-step.result c.act.result c.requires refl c.act.ensures (c.begin-step.ensures (cache_of c.args.self.now))

pub returns-clause-falls : goal.returns-clause-falls
returns-clause-falls c =
    begins_fall c.args.self.now c.args.self.now c.act.new.self c.begin-step.result c.act.result c.requires c.act.ensures (c.begin-step.ensures (cache_of c.args.self.now))
