use Rattle.std.proofs.Common.{◌∙◌}
use Rattle.std.specs.Int.{w64}
use Rattle.std.proofs.lemmas.Int.{to_z-of_z}
use Rattle.store_ranges.specs.Caches.{held}
use Rattle.store_calls.specs.CallStates.{query_of}
use Rattle.store_calls.proofs.Meeting.{read_of}
use Rattle.store_calls.proofs.Steps.{are_of, asks_first, begins, came_to, does}
use Rattle.store_calls.proofs.series_call.SeriesCall.begin.Goals as goal

pub unreachable-requires : goal.unreachable-requires
unreachable-requires c = absurd (
    asks_first c.start-part.result c.first.new.self (query_of c.args.self.now.wanted) (read_of c.args.block.now) (held c.args.cache) c.in-Done.field-0
    (are_of c.start-part.result c.args.self.now.wanted.selector.now c.args.self.now.wanted.replicas.now c.args.self.now.wanted.low c.args.self.now.wanted.high _ _ (read_of c.args.block.now) (held c.args.cache)
    (to_z-of_z w64 c.low_of.result c.low_of.ensures.fits ∙ c.low_of.ensures.value) (to_z-of_z w64 c.high_of.result c.high_of.ensures.fits ∙ c.high_of.ensures.value) c.start-part.ensures.run)
    (came_to c.start-part.result c.first.new.self _ c.in_ok-op.field-0 c.in-Done.field-0 c.in-Done.is c.in_ok-op.ensures.goes_on)
    )

pub returns-clause-leads : goal.returns-clause-leads
returns-clause-leads c =
    begins c.args.self.now (read_of c.args.block.now) (held c.args.cache) c.start-part.result c.first.new.self c.in-Do.op
    (are_of c.start-part.result c.args.self.now.wanted.selector.now c.args.self.now.wanted.replicas.now c.args.self.now.wanted.low c.args.self.now.wanted.high _ _ (read_of c.args.block.now) (held c.args.cache)
    (to_z-of_z w64 c.low_of.result c.low_of.ensures.fits ∙ c.low_of.ensures.value) (to_z-of_z w64 c.high_of.result c.high_of.ensures.fits ∙ c.high_of.ensures.value) c.start-part.ensures.run)
    (does c.start-part.result c.first.new.self _ c.in_ok-op.field-0 c.in-Do.op c.in-Do.is c.in_ok-op.ensures.goes_on)
