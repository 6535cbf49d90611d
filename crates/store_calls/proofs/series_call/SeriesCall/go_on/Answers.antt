use Rattle.std.proofs.Common.{[], ◌∷◌}
use Rattle.std.proofs.lemmas.Result.{err_from_is_err_and}
use Rattle.world_core.specs.Operations.{entry_of}
use Rattle.store_ranges.specs.Caches.{held}
use Rattle.store_calls.proofs.Steps.{came_to, does, reads_end, reads_on, reads_stop}
use Rattle.store_calls.proofs.series_call.SeriesCall.go_on.Goals as goal

pub returns-in_err-op-clause-goes_on : goal.returns-in_err-op-clause-goes_on
returns-in_err-op-clause-goes_on c = λ seat op asks.
    let none = err_from_is_err_and c.from_residual.result c.from_residual.ensures.1 in
    reads_stop c.args.self.now c.args.self.now c.args.part c.step.new.self (entry_of seat op c.args.seen ∷ []) c.from_residual.result none.0 none.1 (c.in_err-op.ensures.goes_on seat op asks)

pub returns-in-Do-clause-goes_on : goal.returns-in-Do-clause-goes_on
returns-in-Do-clause-goes_on c = λ seat op asks.
    reads_on c.args.self.now c.args.part c.step.new.self (entry_of seat op c.args.seen ∷ []) c.in-Do.op
    (does c.args.part c.step.new.self (entry_of seat op c.args.seen ∷ []) c.in_ok-op.field-0 c.in-Do.op c.in-Do.is (c.in_ok-op.ensures.goes_on seat op asks))

pub returns-in-Done-clause-goes_on : goal.returns-in-Done-clause-goes_on
returns-in-Done-clause-goes_on c = λ seat op asks.
    reads_end c.args.self.now c.after_block.new.self c.args.part c.step.new.self (entry_of seat op c.args.seen ∷ []) c.in-Done.came (held c.into_cache.result) c.after_block.result
    (came_to c.args.part c.step.new.self (entry_of seat op c.args.seen ∷ []) c.in_ok-op.field-0 c.in-Done.came c.in-Done.is (c.in_ok-op.ensures.goes_on seat op asks))
    c.into_cache.ensures c.after_block.ensures.leads
