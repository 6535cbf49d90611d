use Rattle.std.proofs.Common.{ap}
use Rattle.store_calls.specs.declared.series_call.SeriesCall.{SeriesCall}
use Rattle.store_calls.proofs.Steps.{ends_damaged, ends_fault, ends_missing}
use Rattle.store_calls.proofs.series_call.SeriesCall.after_block.Goals as goal

pub returns-in-Missing-clause-leads : goal.returns-in-Missing-clause-leads
returns-in-Missing-clause-leads c =
    ends_missing c.args.self.now c.end.new.self c.args.came c.in-Missing.entry c.args.cache c.end.result c.in-Missing.is c.end.ensures.done
    (ap (λ (s : SeriesCall). s.stage) c.end.ensures.over)

pub returns-in-Damaged-clause-leads : goal.returns-in-Damaged-clause-leads
returns-in-Damaged-clause-leads c =
    ends_damaged c.args.self.now c.end-in-Damaged.new.self c.args.came c.in-Damaged.entry c.args.cache c.end-in-Damaged.result c.in-Damaged.is c.end-in-Damaged.ensures.done
    (ap (λ (s : SeriesCall). s.stage) c.end-in-Damaged.ensures.over)

pub returns-in-Fault-clause-leads : goal.returns-in-Fault-clause-leads
returns-in-Fault-clause-leads c =
    ends_fault c.args.self.now c.end-in-Fault.new.self c.args.came c.in-Fault.entry c.args.cache c.end-in-Fault.result c.in-Fault.is c.end-in-Fault.ensures.done
    (ap (λ (s : SeriesCall). s.stage) c.end-in-Fault.ensures.over)
