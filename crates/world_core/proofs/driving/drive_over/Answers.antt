use Rattle.std.proofs.Common.{sym, ap}
use Rattle.world_core.proofs.Turns.{drives_alike}
use Rattle.world_core.proofs.driving.drive_over.Goals as goal

pub returns-clause-run : goal.returns-clause-run
returns-clause-run g c =
    drives_alike _ _ _ c.args.stop c.drive-driven.result _ _ _ _ c.new-hand.ensures.seat (ap (λ w. w.journal) c.new-hand.ensures.world) (ap (λ w. w.journal) (sym c.into_world.ensures)) c.drive-driven.ensures.run
