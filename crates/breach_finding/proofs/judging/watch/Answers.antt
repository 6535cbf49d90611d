use Rattle.std.proofs.Common.{◌≡◌, Bool, true, false, cond, Option, Some, None, refl, ◌∙◌, ap, subst}
use Rattle.std.specs.BTreeMap.{get}
use Rattle.std.specs.Ordering.{is_eq, nat_cmp}
use Rattle.breach_finding.specs.Judging.{under_or}
use Rattle.breach_finding.specs.Watching.{IsTurn}
use Rattle.breach_finding.specs.declared.watching.UnderWay.{UnderWay}
use Rattle.breach_finding.proofs.judging.watch.Goals as goal

joined : (under : Option UnderWay) (b : Bool) (was : Option UnderWay) → under_or under b (cond b None was) ≡ cond b under was
joined None true was = refl
joined None false was = refl
joined (Some next) true was = refl
joined (Some next) false was = refl

pub returns : goal.returns
returns c = record {
  turn = c.in_ok-turn.turn;
  is = subst (λ (o : Option UnderWay). IsTurn c.args.rules o c.args.entry.now c.in_ok-turn.turn) c.remove-under.ensures.value c.in_ok-turn.ensures.turn;
  tells = refl;
  waits = c.in_ok-turn.ensures.waits;
  seats = λ seat.
      c.in_ok-keep_under.ensures seat
      ∙ ap (under_or c.in_ok-turn.turn.under (is_eq (nat_cmp c.args.entry.now.seat seat))) (c.remove-under.ensures.updates.0 seat)
      ∙ joined c.in_ok-turn.turn.under (is_eq (nat_cmp c.args.entry.now.seat seat)) (get nat_cmp c.args.unders.now seat);
}
