use Rattle.std.proofs.Common.{◌≡◌, sym, subst}
use Rattle.std.specs.Prelude.{IfErr, IfOk}
use Rattle.call_verdicts.specs.ShelfReads.{WhyUnread}
use Rattle.call_verdicts.specs.Stages.{IsStageOf}
use Rattle.call_verdicts.proofs.Stages.{calm_loaded, stage_loaded, why_loaded}
use Rattle.call_verdicts.proofs.shelf_loading.load_block.Goals as goal

pub returns-clause-loaded : goal.returns-clause-loaded
returns-clause-loaded g c =
    let told = (g.F.Shelf.told c.args.shelf).files in
    let l = c.load-loaded.ensures in
    subst (λ r. IfOk r (IsStageOf told c.args.ulid)) (sym c.stage_of.ensures) (stage_loaded told c.args.ulid c.load-loaded.result l.ulid l.within l.found l.refused)

pub returns-clause-broken : goal.returns-clause-broken
returns-clause-broken g c =
    let before = (g.F.Shelf.told c.args.shelf).faults in
    let after = (g.F.Shelf.told c.load-loaded.new.shelf).faults in
    subst (λ r. IfErr r (WhyUnread before after)) (sym c.stage_of.ensures) (why_loaded before after c.load-loaded.result c.load-loaded.ensures.kept.cause c.load-loaded.ensures.kept.calm)

pub returns-clause-calm : goal.returns-clause-calm
returns-clause-calm g c =
    let before = (g.F.Shelf.told c.args.shelf).faults in
    let after = (g.F.Shelf.told c.load-loaded.new.shelf).faults in
    subst (λ r. IfOk r (λ s. after ≡ before)) (sym c.stage_of.ensures) (calm_loaded before after c.load-loaded.result c.load-loaded.ensures.kept.calm)

pub returns-clause-asks : goal.returns-clause-asks
returns-clause-asks g c = (c.load-loaded.ensures.asks.count, c.load-loaded.ensures.asks.names)
