use Rattle.std.proofs.Common.{false}
use Rattle.world_core.specs.Turning.{Turned}
use Rattle.world_core.proofs.Turns.{Waiting}
use Rattle.world_core.proofs.driving.drive.Given as goal

abbrev pub invariant-turns : goal.invariant-turns
invariant-turns g l =
    let m = g.M.Machine in
    let h = g.H.Hand in
    record {
      waiting : Waiting m.may m.asked (h.told l.fn.hand).seat l.last l.fn.machine (h.told l.fn.hand).entries l.op l.answered l.machine (h.told l.hand).entries;
      turned : Turned h.told h.keeps l.fn.hand l.hand false false;
    }

abbrev pub decreases-turns : goal.decreases-turns
decreases-turns g l = g.M.Machine.measure l.machine
