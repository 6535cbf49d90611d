use Rattle.std.proofs.Common.{◌≡◌, ◌-◌, ℕ, sym, ◌∙◌, ap, map, fold, arith}
use Rattle.std.specs.List.{range_with_len}
use Rattle.script_workers.specs.declared.hand.Hand.TheVariants.{Gateway}
use Rattle.script_workers.specs.Hands.{with_hand}
use Rattle.script_workers.proofs.HandLists.{range_more, keeps_itself, keeps_more}
use Rattle.script_workers.proofs.hands.add_gateways.Goals as goal

pub loop-gateway-init : goal.loop-gateway-init
loop-gateway-init c =
    let all : c.args.gateways - 0 ≡ c.args.gateways = omega arith in
    (ap (λ (n : ℕ). fold with_hand c.args.hands.now.items (map Gateway (range_with_len 0 n))) all, keeps_itself _)

pub loop-gateway-preserved : goal.loop-gateway-preserved
loop-gateway-preserved c =
    let more = range_more c.loop-gateway.gateway c.args.gateways c.loop-gateway-test.true in (
      rw c.in_ok-add_hand.ensures.put (sym (ap (λ range. fold with_hand c.loop-gateway.hands.items (map Gateway range)) more) ∙ c.loop-gateway.invariant.0),
      keeps_more _ _ _ c.loop-gateway.invariant.1 c.add_hand.ensures.front c.add_hand.ensures.longer,
    )

pub returns-in_err-add_hand-clause-front : goal.returns-in_err-add_hand-clause-front
returns-in_err-add_hand-clause-front c = (keeps_more _ _ _ c.loop-gateway.invariant.1 c.add_hand.ensures.front c.add_hand.ensures.longer).front

pub returns-clause-put : goal.returns-clause-put
returns-clause-put c =
    let none : c.args.gateways - c.loop-gateway.gateway ≡ 0 = omega (arith, c.loop-gateway-test.false) in
    sym (ap (λ (n : ℕ). fold with_hand c.loop-gateway.hands.items (map Gateway (range_with_len c.loop-gateway.gateway n))) none) ∙ c.loop-gateway.invariant.0

pub returns-clause-front : goal.returns-clause-front
returns-clause-front c = c.loop-gateway.invariant.1.front
