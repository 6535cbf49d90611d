use Rattle.std.proofs.Common.{◌+◌, ◌<◌, ◌∷◌, [], ◌++◌, List, length, drop, map, refl, sym, ap, ◌∙◌, subst, arith, rules, length-append}
use Rattle.std.specs.List.{zip}
use Rattle.std.specs.List.Sorted.{IsPermutation}
use Rattle.std.proofs.lemmas.Iterator.Adapters.{YieldsList-from_vec}
use Rattle.std.proofs.lemmas.Iterator.Consumers.{YieldsList-end, YieldsList-turn}
use Rattle.std.proofs.lemmas.List.Sorted.{IsNonDecreasingBy-from_sort_by_key, IsPermutation-map}
use Rattle.script_workers.specs.declared.worker.Worker.{Worker}
use Rattle.script_running.specs.Gathering.{back_of, turn_of}
use Rattle.script_running.specs.declared.gathering.CameBack.{CameBack}
use Rattle.script_running.specs.declared.worker.WorkerEnd.{WorkerEnd}
use Rattle.script_running.proofs.Taking.{found, zip_end, zip_more, zip_start}
use Rattle.script_running.proofs.Turns.{up_by}
use Rattle.script_running.proofs.gathering.in_turn.Goals as goal

pub loop-end-init : goal.loop-end-init
loop-end-init c = record {
  number = refl;
  count = ap length c.in_ok-backs.ensures.items;
  room = (let a = c.in_ok-backs.ensures.capacity in omega (arith, a));
  so_far = ap (λ (l : List CameBack). map back_of l ++ zip (drop 0 c.args.workers.now) (drop 0 c.args.ends.items)) c.in_ok-backs.ensures.items ∙ zip_start c.args.workers.now c.args.ends.items;
}

pub loop-end-preserved : goal.loop-end-preserved
loop-end-preserved c =
    let i = c.loop-end.invariant in
    let end = c.in-Some.end in
    let road = YieldsList-from_vec c.args.ends.items c.into_iter-end-iterator.ensures.into_iter_gives.0 (omega (arith, c.into_iter-end-iterator.ensures.into_iter_gives.1, c.args.ends.ok)) in
    let turn = YieldsList-turn road c.loop-end.yielded c.loop-end.end-iterator c.loop-end.yielded_by c.next.result c.next.new.self end c.in-Some.is c.next.ensures.steps in
    let below : c.loop-end.number < length c.args.workers.now = omega (arith, turn.0, i.number, c.requires) in
    let at = found c.args.workers.now c.loop-end.number c.loop-end.number c.index-workers-number.result refl below c.index-workers-number.is in
    let here = found c.args.ends.items (length c.loop-end.yielded) c.loop-end.number end i.number turn.0 turn.1 in
    record {
      number = omega (arith, i.number, length-append c.loop-end.yielded (end ∷ []));
      count = ap length c.push_reserved.ensures.items ∙ length-append c.loop-end.backs.items _ ∙ ap (λ n. n + 1) i.count;
      room = (let a = i.room in let b = c.push_reserved.ensures.capacity in omega arith);
      so_far = zip_more c.args.workers.now c.args.ends.items c.loop-end.number c.loop-end.backs.items c.push_reserved.new.self.items _ at here c.push_reserved.ensures.items i.so_far;
    }

pub returns : goal.returns
returns c =
    let i = c.loop-end.invariant in
    let road = YieldsList-from_vec c.args.ends.items c.into_iter-end-iterator.ensures.into_iter_gives.0 (omega (arith, c.into_iter-end-iterator.ensures.into_iter_gives.1, c.args.ends.ok)) in
    let end = YieldsList-end road c.loop-end.yielded c.loop-end.end-iterator c.loop-end.yielded_by c.next.result c.next.new.self c.in-None.is c.next.ensures.steps in
    let all = zip_end c.args.workers.now c.args.ends.items c.loop-end.number c.loop-end.backs.items (omega (arith, i.number, end.1, c.requires)) i.so_far in
    record {
      same = subst (λ l. IsPermutation l (map back_of c.sort_by_key.new.self.items)) all (IsPermutation-map back_of c.loop-end.backs.items c.sort_by_key.new.self.items c.sort_by_key.ensures.permutation);
      ascend = up_by back_of turn_of c.sort_by_key.new.self.items (IsNonDecreasingBy-from_sort_by_key (λ (b : CameBack). turn_of (back_of b)) _ c.in_ok-sort_by_key.ensures.sorted (λ a r q k. search rules));
    }
