use Rattle.std.proofs.Common.{All, subst}
use Rattle.block_meta.proofs.Lists.{each_again}
use Rattle.block_meta.proofs.item.write_list.Goals as goal

pub returns-clause-again : goal.returns-clause-again
returns-clause-again g c =
    let again = rw c.members.ensures at c.in_ok-write_items.ensures.again in
    λ name. each_again g.T.Item.written (g.T.Item.reads name) c.args.list.now (λ k d lt. again k d lt name)

pub returns-clause-fits : goal.returns-clause-fits
returns-clause-fits g c = subst (All g.T.Item.fits) c.members.ensures c.in_ok-write_items.ensures.fits
