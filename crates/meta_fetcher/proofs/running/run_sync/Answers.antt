use Rattle.std.proofs.Common.{refl}
use Rattle.std.specs.Prelude.{None}
use Rattle.meta_fetcher.specs.Syncs.{SyncRun}
use Rattle.world_core.proofs.BegunDrives.{begun_as}
use Rattle.meta_fetcher.proofs.running.run_sync.Goals as goal

pub returns-clause-run : goal.returns-clause-run
returns-clause-run g c = begun_as _ (SyncRun c.args.rules) c.start.result (g.H.Hand.told c.args.hand.now).seat None c.run_begun.result (g.H.Hand.told c.args.hand.now).entries (g.H.Hand.told c.run_begun.new.hand).entries refl c.start.ensures.run c.run_begun.ensures.run
