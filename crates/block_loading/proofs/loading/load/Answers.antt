use Rattle.std.proofs.Common.{inl, inr, refl}
use Rattle.block_loading.specs.Loading.{StopsAt}
use Rattle.block_loading.proofs.Calls.{answered, passed_on}
use Rattle.block_loading.proofs.AskedBlock.{asked_on, asked_whole}
use Rattle.block_loading.proofs.loading.load.Goals as goal

pub returns-in_err-block-clause-only : goal.returns-in_err-block-clause-only
returns-in_err-block-clause-only g c = λ told h files is. inr (passed_on c.from_residual.result c.in_err-block.field-0.0 c.from_residual.ensures.1 (c.in_err-block.ensures.only told h files is))

pub returns-clause-only : goal.returns-clause-only
returns-clause-only g c = λ told h files is. inl (answered _ (c.in_ok-block.ensures.only told h files is))

pub returns-in_err-block-clause-asks : goal.returns-in_err-block-clause-asks
returns-in_err-block-clause-asks g c = asked_on g.F.Shelf.told _ _ _ _ c.args.ulid (StopsAt c.args.ulid) (StopsAt c.args.ulid) c.from_residual.result c.in_err-block.field-0.0 c.from_residual.ensures.1 (λ count refusal stops. stops) c.in_err-block.ensures.asks

pub returns-clause-asks : goal.returns-clause-asks
returns-clause-asks g c = asked_whole g.F.Shelf.told _ _ _ _ c.args.ulid (StopsAt c.args.ulid) (StopsAt c.args.ulid) _ _ refl (λ count whole. tt) refl c.in_ok-block.ensures.asks
