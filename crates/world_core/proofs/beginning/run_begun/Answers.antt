use Rattle.world_core.proofs.BegunDrives.{begun_drives, unbegun_drives}
use Rattle.world_core.proofs.beginning.run_begun.Goals as goal

pub returns-in-Ok-clause-run : goal.returns-in-Ok-clause-run
returns-in-Ok-clause-run g c =
    begun_drives g.M.Machine.may c.args.begun c.in-Ok.machine c.drive-driven.new.machine (g.H.Hand.told c.args.hand.now).seat c.args.stop c.drive-driven.result (g.H.Hand.told c.args.hand.now).entries (g.H.Hand.told c.drive-driven.new.hand).entries
    c.in-Ok.is c.drive-driven.ensures.run

pub returns-in-Err-clause-run : goal.returns-in-Err-clause-run
returns-in-Err-clause-run g c =
    unbegun_drives g.M.Machine.may c.args.begun c.in-Err.field-0 (g.H.Hand.told c.args.hand.now).seat c.args.stop (g.H.Hand.told c.args.hand.now).entries c.in-Err.is
