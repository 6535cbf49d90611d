use Rattle.std.proofs.Common.{ℕ, ◌++◌, List, length, map, refl, sym, ap, ◌∙◌, subst, arith}
use Rattle.std.specs.List.{zip}
use Rattle.std.proofs.lemmas.Iterator.Adapters.{YieldsList-from_vec}
use Rattle.std.proofs.lemmas.Iterator.Consumers.{YieldsList-end}
use Rattle.std.proofs.lemmas.List.{map-id}
use Rattle.base.proofs.Lists.{map-push}
use Rattle.script_running.specs.Gathering.{AreTakenIn, back_of, paired_with, parts_at}
use Rattle.script_running.specs.declared.gathering.CameBack.{CameBack}
use Rattle.script_running.proofs.Taking.{takes_none, takes_one}
use Rattle.script_running.proofs.gathering.take_in.Goals as goal

pub loop-back-init : goal.loop-back-init
loop-back-init c = record {
  long = refl;
  wide = c.in_ok-lists.ensures.wide;
  taken = takes_none c.args.sights.now.items c.in_ok-lists.lists.items c.in_ok-lists.ensures.none;
}

pub loop-back-preserved : goal.loop-back-preserved
loop-back-preserved c =
    let i = c.loop-back.invariant in
    record {
      long = c.see.ensures.each ∙ i.long;
      wide = c.lay.ensures.wide ∙ i.wide;
      taken = subst (λ l. AreTakenIn l c.args.sights.now.items c.see.new.sights.items c.lay.new.lists.items) (sym (map-push back_of c.loop-back.yielded c.in-Some.back))
          (takes_one (map back_of c.loop-back.yielded) (back_of c.in-Some.back) c.args.sights.now.items c.loop-back.sights.items c.see.new.sights.items c.loop-back.lists.items c.lay.new.lists.items i.taken c.see.ensures.sees
          (λ place. c.in_ok-lay.ensures.laid place ∙ ap (λ (l : List ℕ). parts_at c.loop-back.lists.items place ++ paired_with place (zip l c.in-Some.back.end.parts.items)) c.members.ensures));
    }

pub returns-clause-taken : goal.returns-clause-taken
returns-clause-taken c =
    let road = YieldsList-from_vec c.args.backs.items c.into_iter-back-iterator.ensures.into_iter_gives.0 (omega (arith, c.into_iter-back-iterator.ensures.into_iter_gives.1, c.args.backs.ok)) in
    let end = YieldsList-end road c.loop-back.yielded c.loop-back.back-iterator c.loop-back.yielded_by c.next.result c.next.new.self c.in-None.is c.next.ensures.steps in
    subst (λ (l : List CameBack). AreTakenIn (map back_of l) c.args.sights.now.items c.loop-back.sights.items c.loop-back.lists.items) (sym (map-id c.loop-back.yielded) ∙ end.0) c.loop-back.invariant.taken
