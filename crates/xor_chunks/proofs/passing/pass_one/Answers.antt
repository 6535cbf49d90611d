use Rattle.std.proofs.Common.{◌≡◌, Ok, ℤ, pos, ◌+ℤ◌, rules, sym, ap, ◌∙◌, arith}
use Rattle.std.specs.Int.{w64, w128, cast_signed, cast_unsigned}
use Rattle.std.proofs.lemmas.Int.{ints}
use Rattle.xor_chunks.specs.Steps.{time_after}
use Rattle.xor_chunks.proofs.Peeks.{shows_less}
use Rattle.xor_chunks.proofs.BitPlaces.{pass_next}
use Rattle.xor_chunks.proofs.passing.pass_one.Goals as goal

pub returns-clause-passed : goal.returns-clause-passed
returns-clause-passed c = λ bits shows long.
    let given : cast_signed w128 (cast_unsigned w128 c.from.result) ≡ c.in_ok-change.change = first_of (search rules, grind (arith, ints)) in
    let same : c.in_ok-time.time ≡ cast_signed w64 (cast_unsigned w64 c.in_ok-time.time) = search rules in
    let told : time_after c.args.last.now.time (pos c.args.last.now.delta +ℤ cast_signed w128 (cast_unsigned w128 c.from.result)) ≡ Ok (c.in_ok-time.time, c.in_ok-time.delta) = search rules in
    let times : time_after c.args.last.now.time (pos c.args.last.now.delta +ℤ c.in_ok-change.change) ≡ Ok (cast_signed w64 (cast_unsigned w64 c.in_ok-time.time), c.in_ok-time.delta) =
    ap (λ (z : ℤ). time_after c.args.last.now.time (pos c.args.last.now.delta +ℤ z)) (sym given) ∙ told ∙ ap (λ (z : ℤ). Ok (z, c.in_ok-time.delta)) same in
    pass_next c.in_ok-change.known c.pass_value-window.result.1 _ _ _ _ _ _ _
    (c.in_ok-change.ensures.told bits (shows_less _ _ _ bits (omega arith) shows)) (c.pass_value-window.ensures.passed bits c.args.last.now.pattern (shows_less _ 37 _ bits (omega (arith, c.in_ok-change.ensures.few)) shows) long) c.is_inside.ensures c.if-not-is_inside.false times
