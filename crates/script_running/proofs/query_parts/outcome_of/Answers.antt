use Rattle.std.proofs.Common.{◌≡◌, ◌+◌, ◌∷◌, ◌++◌, [], length, ap, sym, ◌∙◌, arith, length-append}
use Rattle.std.proofs.lemmas.Iterator.Adapters.{YieldsList-from_vec}
use Rattle.std.proofs.lemmas.Iterator.Consumers.{YieldsList-so_far, YieldsList-turn}
use Rattle.std.proofs.lemmas.List.{length-map}
use Rattle.script_running.specs.declared.came.Came.TheVariants as part
use Rattle.script_running.proofs.GivenParts.{part_more, whole_here}
use Rattle.script_running.proofs.query_parts.outcome_of.Goals as goal

pub returns-in-Err : goal.returns-in-Err
returns-in-Err g c =
    let road = YieldsList-from_vec c.args.parts.items c.into_iter-part-iterator.ensures.into_iter_gives.0 (omega (arith, c.into_iter-part-iterator.ensures.into_iter_gives.1, c.args.parts.ok)) in
    let so_far = YieldsList-so_far road c.loop-part.yielded c.loop-part.part-iterator c.loop-part.yielded_by in
    let turn = YieldsList-turn road c.loop-part.yielded c.loop-part.part-iterator c.loop-part.yielded_by c.next.result c.next.new.self c.in-Some.part c.in-Some.is c.next.ensures.steps in
    record { whole = λ w all few. whole_here c.loop-part.invariant.0 c.in-Err.whole c.args.parts.items c.loop-part.yielded c.in-Some.part c.in-Err.ensures c.loop-part.invariant.1 so_far turn w all }

pub loop-part-preserved : goal.loop-part-preserved
loop-part-preserved g c =
    let i = c.loop-part.invariant in
    let road = YieldsList-from_vec c.args.parts.items c.into_iter-part-iterator.ensures.into_iter_gives.0 (omega (arith, c.into_iter-part-iterator.ensures.into_iter_gives.1, c.args.parts.ok)) in
    let turn = YieldsList-turn road c.loop-part.yielded c.loop-part.part-iterator c.loop-part.yielded_by c.next.result c.next.new.self c.in-Some.part c.in-Some.is c.next.ensures.steps in
    let many : length c.loop-part.yielded ≡ length i.0 = ap length i.1 ∙ length-map i.0 part.Query in
    let more : length (i.0 ++ c.in-Ok.own ∷ []) ≡ length i.0 + 1 = length-append i.0 (c.in-Ok.own ∷ []) in (
      i.0 ++ c.in-Ok.own ∷ [],
      part_more i.0 c.loop-part.yielded c.in-Some.part c.in-Ok.own i.1 c.in-Ok.ensures,
      λ few.
          (omega (arith, c.saturating_add-gateway.ensures, (i.2 few).0, turn.0, many, more, few), c.in_ok-add-in-Ok.ensures i.0 (sym (i.2 few).0) (i.2 few).1),
    )
