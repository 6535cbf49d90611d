use Rattle.std.proofs.Common.{subst}
use Rattle.script_running.specs.Lending.{Loan, setting_in}
use Rattle.script_running.specs.Shelves.{Knows}
use Rattle.script_running.proofs.Shelves.{knows}
use Rattle.script_running.proofs.means.Means.block.Goals as goal

pub returns-clause-known : goal.returns-clause-known
returns-clause-known c =
    let i = c.self.inside in
    subst (λ (l : Loan). Knows (setting_in l) l.shelf c.block_among.result.now) c.self.view_is
    (knows i.script.value i.shelf.now c.args.ulid c.block_among.result.now c.block_among.ensures.found c.self.invariant.at_hand)
