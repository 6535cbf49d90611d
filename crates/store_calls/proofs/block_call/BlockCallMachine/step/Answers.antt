use Rattle.std.proofs.Common.{refl}
use Rattle.std.proofs.lemmas.Result.{err_from_is_err_and}
use Rattle.store_calls.specs.declared.work.Work.TheVariants.{Over}
use Rattle.store_calls.proofs.CallSteps.{steps_on, steps_fall, steps_stop}
use Rattle.store_calls.proofs.block_call.BlockCallMachine.step.Goals as goal

pub returns-clause-goes_on : goal.returns-clause-goes_on
returns-clause-goes_on c = λ seat op is.
    steps_on c.args.self.now (record { asked = c.args.self.now.asked; cache = c.go_on.new.cache; work = Over }) c.act.new.self seat op c.args.seen c.replace-work.result c.in_ok-step.step c.act.result is
    c.replace-work.ensures.value refl c.act.ensures (c.in_ok-step.ensures seat op)

pub returns-clause-falls : goal.returns-clause-falls
returns-clause-falls c =
    steps_fall c.args.self.now (record { asked = c.args.self.now.asked; cache = c.go_on.new.cache; work = Over }) c.act.new.self c.args.seen c.replace-work.result c.in_ok-step.step c.act.result c.requires
    c.replace-work.ensures.value refl c.act.ensures c.in_ok-step.ensures

pub returns-in_err-step-clause-goes_on : goal.returns-in_err-step-clause-goes_on
returns-in_err-step-clause-goes_on c = λ seat op is.
    let wanting = err_from_is_err_and c.from_residual.result c.from_residual.ensures.1 in
    steps_stop c.args.self.now (record { asked = c.args.self.now.asked; cache = c.go_on.new.cache; work = c.replace-work.new.dest }) seat op c.args.seen c.from_residual.result wanting.0 wanting.1 is
