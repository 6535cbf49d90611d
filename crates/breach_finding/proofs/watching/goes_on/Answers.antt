use Rattle.std.proofs.Common.{Ok, [], ◌∷◌, ap}
use Rattle.breach_finding.specs.Watching.{as_passed}
use Rattle.breach_finding.proofs.Steps.{came_do, came_done, went_do, went_done}
use Rattle.breach_finding.proofs.watching.goes_on.Goals as goal

pub returns-in-Do-clause-went : goal.returns-in-Do-clause-went
returns-in-Do-clause-went c rules made at =
    went_do rules made c.args.w at c.args.e.now c.act_with_entry.new.machine c.in-Do.asks
    (came_do c.args.w.machine c.act_with_entry.new.machine (as_passed c.args.e.now ∷ []) (Ok c.in-Ok.act) c.in-Do.asks c.in-Ok.ensures (ap Ok c.in-Do.is))

pub returns-in-Do-clause-waits : goal.returns-in-Do-clause-waits
returns-in-Do-clause-waits c =
    (came_do c.args.w.machine c.act_with_entry.new.machine (as_passed c.args.e.now ∷ []) (Ok c.in-Ok.act) c.in-Do.asks c.in-Ok.ensures (ap Ok c.in-Do.is)).waits

pub returns-clause-went : goal.returns-clause-went
returns-clause-went c rules made at =
    went_done rules made c.args.w at c.args.e.now c.act_with_entry.new.machine c.in-Done.end c.came_to-came.result c.came_to-came.ensures
    (came_done c.args.w.machine c.act_with_entry.new.machine (as_passed c.args.e.now ∷ []) (Ok c.in-Ok.act) c.in-Done.end c.in-Ok.ensures (ap Ok c.in-Done.is))
