use Rattle.std.proofs.Common.{sym, ◌∙◌}
use Rattle.store_calls.proofs.Steps.{call_begins}
use Rattle.store_calls.proofs.series_call.SeriesCallMachine.first.Goals as goal

pub returns : goal.returns
returns c = call_begins c.args.self.now c.read_next.new.self c.in-Fresh.cache c.read_next.result (sym c.replace-stage.ensures.value ∙ c.in-Fresh.is) c.read_next.ensures.leads
