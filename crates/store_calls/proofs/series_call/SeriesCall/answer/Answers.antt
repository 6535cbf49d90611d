use Rattle.std.proofs.Common.{ap}
use Rattle.store_calls.specs.declared.series_call.SeriesCall.{SeriesCall}
use Rattle.store_calls.proofs.Steps.{answers}
use Rattle.store_calls.proofs.series_call.SeriesCall.answer.Goals as goal

pub returns-clause-leads : goal.returns-clause-leads
returns-clause-leads c =
    answers c.args.self.now c.end.new.self c.replace-merger.result c.in_ok-series.series c.in_ok-sources.sources c.args.cache c.end.result c.replace-merger.ensures.value c.in_ok-series.ensures.merged
    c.in_ok-sources.ensures c.end.ensures.done (ap (λ (s : SeriesCall). s.stage) c.end.ensures.over)
