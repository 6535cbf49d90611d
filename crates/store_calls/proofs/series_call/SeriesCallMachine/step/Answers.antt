use Rattle.std.proofs.Common.{sym, ◌∙◌}
use Rattle.store_calls.proofs.Steps.{asks_part, in_reading}
use Rattle.store_calls.proofs.series_call.SeriesCallMachine.step.Goals as goal

pub returns-clause-goes_on : goal.returns-clause-goes_on
returns-clause-goes_on c = λ seat op asks.
    in_reading c.args.self.now c.go_on.new.self c.in-Reading.part _ c.go_on.result (sym c.replace-stage.ensures.value ∙ c.in-Reading.is)
    (c.go_on.ensures.goes_on seat op (asks_part c.args.self.now c.in-Reading.part op (sym c.replace-stage.ensures.value ∙ c.in-Reading.is) asks))
