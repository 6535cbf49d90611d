use Rattle.std.proofs.Common.{◌<◌, ◌∷◌, [], length, get_or, refl, ◌∙◌, arith, length-append}
use Rattle.std.proofs.Math.ListN.{length-set}
use Rattle.std.proofs.lemmas.Iterator.Adapters.{YieldsList-from_vec}
use Rattle.std.proofs.lemmas.Iterator.Consumers.{YieldsList-end, YieldsList-turn}
use Rattle.std.proofs.lemmas.Option.{slice_get-get_or}
use Rattle.base.proofs.Membership.{All-place}
use Rattle.script_running.proofs.Taking.{found, lay_end, lay_past, lay_start, lay_step}
use Rattle.script_running.proofs.gathering.lay.Goals as goal

pub loop-part-init : goal.loop-part-init
loop-part-init c = record {
  number = refl;
  wide = refl;
  way = lay_start c.args.places.now c.args.parts.items c.args.lists.now.items;
}

pub returns-then-number-places-clause-laid : goal.returns-then-number-places-clause-laid
returns-then-number-places-clause-laid c = lay_past c.args.places.now c.args.parts.items c.loop-part.number c.args.lists.now.items c.loop-part.lists.items (omega arith) c.loop-part.invariant.way

pub loop-part-preserved : goal.loop-part-preserved
loop-part-preserved c =
    let i = c.loop-part.invariant in
    let road = YieldsList-from_vec c.args.parts.items c.into_iter-part-iterator.ensures.into_iter_gives.0 (omega (arith, c.into_iter-part-iterator.ensures.into_iter_gives.1, c.args.parts.ok)) in
    let turn = YieldsList-turn road c.loop-part.yielded c.loop-part.part-iterator c.loop-part.yielded_by c.next.result c.next.new.self c.in-Some.part c.in-Some.is c.next.ensures.steps in
    let at = slice_get-get_or c.args.places.now c.loop-part.number 0 c.if-number-places.false in
    let here = found c.args.parts.items (length c.loop-part.yielded) c.loop-part.number c.in-Some.part i.number turn.0 turn.1 in
    let fits = All-place (λ place. place < length c.args.lists.now.items) c.args.places.now c.loop-part.number (get_or c.args.places.now c.loop-part.number 0) c.requires at in
    let inside : get_or c.args.places.now c.loop-part.number 0 < length c.loop-part.lists.items = omega (arith, fits, i.wide) in
    let there = found c.loop-part.lists.items (get_or c.args.places.now c.loop-part.number 0) (get_or c.args.places.now c.loop-part.number 0) c.index_mut.result.now refl inside c.index_mut.ensures.value in
    record {
      number = omega (arith, i.number, length-append c.loop-part.yielded (c.in-Some.part ∷ []));
      wide = length-set c.loop-part.lists.items (get_or c.args.places.now c.loop-part.number 0) c.add.new.own ∙ i.wide;
      way = lay_step c.args.places.now c.args.parts.items c.loop-part.number c.args.lists.now.items c.loop-part.lists.items _ (get_or c.args.places.now c.loop-part.number 0) c.index_mut.result.now c.add.new.own c.in-Some.part at here there inside refl c.in_ok-add.ensures i.way;
    }

pub returns-clause-laid : goal.returns-clause-laid
returns-clause-laid c =
    let i = c.loop-part.invariant in
    let road = YieldsList-from_vec c.args.parts.items c.into_iter-part-iterator.ensures.into_iter_gives.0 (omega (arith, c.into_iter-part-iterator.ensures.into_iter_gives.1, c.args.parts.ok)) in
    let end = YieldsList-end road c.loop-part.yielded c.loop-part.part-iterator c.loop-part.yielded_by c.next.result c.next.new.self c.in-None.is c.next.ensures.steps in
    lay_end c.args.places.now c.args.parts.items c.loop-part.number c.args.lists.now.items c.loop-part.lists.items (omega (arith, i.number, end.1)) i.way
