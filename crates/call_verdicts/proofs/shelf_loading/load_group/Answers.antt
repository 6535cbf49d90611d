use Rattle.std.proofs.Common.{◌+◌, ◌∙◌, ◌++◌, ◌∷◌, [], List, refl, subst, sym, ap, arith, append_assoc, take}
use Rattle.std.specs.List.{AllZip}
use Rattle.std.proofs.lemmas.List.{append-nil, take_all}
use Rattle.base.proofs.Lists.{take_none, take_place}
use Rattle.script_core.specs.declared.block.Block.{Block}
use Rattle.report_lines.specs.script_running.proofs.Taking.{found}
use Rattle.call_verdicts.specs.Asked.{WasRead, shelf_ulids}
use Rattle.call_verdicts.specs.Stages.{IsLoadedFor, IsLoadedNext}
use Rattle.call_verdicts.specs.declared.check_way.Stage.{Stage}
use Rattle.call_verdicts.proofs.ShelfReads.{broken_since, ok_is, read_begun, read_more}
use Rattle.call_verdicts.proofs.Stages.{zip_next}
use Rattle.call_verdicts.proofs.shelf_loading.load_group.Goals as goal

pub loop-block-init : goal.loop-block-init
loop-block-init g c =
    let none = sym (take_none c.args.group.now) in
    record {
      loaded = subst (λ (bs : List Block). AllZip (IsLoadedFor (g.F.Shelf.told c.args.shelf).files) bs c.new-stages.result.items) none
          (subst (λ (ss : List Stage). AllZip (IsLoadedFor (g.F.Shelf.told c.args.shelf).files) [] ss) (sym c.new-stages.ensures.items) tt);
      calm = refl;
      asked = λ front was. subst (λ (bs : List Block). WasRead g.F.Shelf.told (shelf_ulids (front ++ bs)) c.args.shelf) none
          (subst (λ (bs : List Block). WasRead g.F.Shelf.told (shelf_ulids bs) c.args.shelf) (sym (append-nil front)) was);
      same = refl;
    }

pub loop-block-preserved : goal.loop-block-preserved
loop-block-preserved g c =
    let i = c.loop-block.invariant in
    let b = c.block-item.result in
    let at = found c.args.group.now c.loop-block.block-index c.loop-block.block-index b refl c.loop-block-test.true c.block-item.is in
    let next = sym (take_place c.args.group.now c.loop-block.block-index b at) in
    let before = take c.loop-block.block-index c.args.group.now in
    record {
      loaded = subst (λ (bs : List Block). AllZip (IsLoadedFor (g.F.Shelf.told c.args.shelf).files) bs c.load_next-came.new.stages.items) next
          (zip_next (g.F.Shelf.told c.args.shelf).files before b c.loop-block.stages.items c.load_next-came.new.stages.items i.loaded
          (subst (λ told. IsLoadedNext told b c.loop-block.stages.items c.load_next-came.new.stages.items) i.same (ok_is c.load_next-came.result.0 c.in_default.field-0 _ c.in_default.is c.load_next-came.ensures.loaded)));
      calm = ok_is c.load_next-came.result.0 c.in_default.field-0 _ c.in_default.is c.load_next-came.ensures.calm ∙ i.calm;
      asked = λ front was. subst (λ (bs : List Block). WasRead g.F.Shelf.told (shelf_ulids bs) c.load_next-came.result.1) (append_assoc front before (b ∷ []) ∙ ap (λ (bs : List Block). front ++ bs) next)
          (read_more g.F.Shelf.told (front ++ before) b c.loop-block.shelf c.load_next-came.result.1 (i.asked front was) c.load_next-came.ensures.asks);
      same = c.load_next-came.ensures.same ∙ i.same;
    }

pub returns-in-Err-clause-broken : goal.returns-in-Err-clause-broken
returns-in-Err-clause-broken g c =
    broken_since (g.F.Shelf.told c.args.shelf).faults (g.F.Shelf.told c.loop-block.shelf).faults (g.F.Shelf.told c.load_next-came.result.1).faults c.load_next-came.result.0 c.in-Err.verdict c.loop-block.invariant.calm c.in-Err.is c.load_next-came.ensures.broken

pub returns-in-Err-clause-asked : goal.returns-in-Err-clause-asked
returns-in-Err-clause-asked g c = λ front was.
    let i = c.loop-block.invariant in
    let b = c.block-item.result in
    let place = c.loop-block.block-index in
    let at = found c.args.group.now place place b refl c.loop-block-test.true c.block-item.is in
    let before = take place c.args.group.now in
    let so = subst (λ (bs : List Block). WasRead g.F.Shelf.told (shelf_ulids bs) c.load_next-came.result.1) (append_assoc front before (b ∷ []) ∙ ap (λ (bs : List Block). front ++ bs) (sym (take_place c.args.group.now place b at)))
    (read_more g.F.Shelf.told (front ++ before) b c.loop-block.shelf c.load_next-came.result.1 (i.asked front was) c.load_next-came.ensures.asks) in
    read_begun g.F.Shelf.told front c.args.group.now (place + 1) c.load_next-came.result.1 so

pub returns-in-Err-clause-same : goal.returns-in-Err-clause-same
returns-in-Err-clause-same g c = c.load_next-came.ensures.same ∙ c.loop-block.invariant.same

pub returns-clause-loaded : goal.returns-clause-loaded
returns-clause-loaded g c =
    subst (λ (bs : List Block). AllZip (IsLoadedFor (g.F.Shelf.told c.args.shelf).files) bs c.loop-block.stages.items) (take_all c.loop-block.block-index c.args.group.now (omega (arith, c.loop-block-test.false))) c.loop-block.invariant.loaded

pub returns-clause-asked : goal.returns-clause-asked
returns-clause-asked g c = λ front was. read_begun g.F.Shelf.told front c.args.group.now c.loop-block.block-index c.loop-block.shelf (c.loop-block.invariant.asked front was)
