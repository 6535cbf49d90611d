use Rattle.std.proofs.Common.{Ok, [], ap, ◌∙◌}
use Rattle.breach_finding.proofs.Steps.{at_first, first_asks, came_do, came_done, first_not_done}
use Rattle.breach_finding.proofs.watching.opened_sync.Goals as goal

pub unreachable-requires : goal.unreachable-requires
unreachable-requires c =
    first_not_done c.args.rules c.in_ok-machine.machine c.in_ok-machine.ensures.run c.in-Done.field-0 c.first.new.self
    (came_done c.in_ok-machine.machine c.first.new.self [] c.first.result c.in-Done.field-0 c.first.ensures (c.in_ok-asks.was ∙ ap Ok c.in-Done.is))

pub returns-clause-at : goal.returns-clause-at
returns-clause-at c =
    at_first c.args.rules c.in_ok-machine.machine c.in_ok-machine.ensures.run c.in-Do.asks c.first.new.self
    (came_do c.in_ok-machine.machine c.first.new.self [] c.first.result c.in-Do.asks c.first.ensures (c.in_ok-asks.was ∙ ap Ok c.in-Do.is))

pub returns-clause-asks : goal.returns-clause-asks
returns-clause-asks c =
    first_asks c.args.rules c.in_ok-machine.machine c.in_ok-machine.ensures.run c.requires c.in-Do.asks c.first.new.self
    (came_do c.in_ok-machine.machine c.first.new.self [] c.first.result c.in-Do.asks c.first.ensures (c.in_ok-asks.was ∙ ap Ok c.in-Do.is))
