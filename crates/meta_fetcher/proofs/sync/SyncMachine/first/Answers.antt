use Rattle.std.proofs.Common.{sym, ap, Some}
use Rattle.world_core.specs.declared.op.Op.TheVariants as op
use Rattle.meta_fetcher.proofs.Steps.{opens}
use Rattle.meta_fetcher.proofs.sync.SyncMachine.first.Goals as goal

pub returns : goal.returns
returns c =
    opens c.args.self.now _ (op.RootPage c.in_ok-cursor.cursor c.args.self.now.rules.page_limit) c.requires c.args.self.now.limit
    (ap (λ cursor. Some (op.RootPage cursor c.args.self.now.rules.page_limit)) (sym c.in_ok-cursor.ensures)) (λ entries end run. run)
