use Rattle.std.proofs.Common.{◌≡◌, Ok, ℤ, pos, ◌+ℤ◌, rules, sym, ap, ◌∙◌, arith}
use Rattle.std.specs.Int.{w64, w128, cast_signed, cast_unsigned}
use Rattle.std.proofs.lemmas.Int.{ints}
use Rattle.xor_chunks.specs.Steps.{time_after}
use Rattle.xor_chunks.proofs.Peeks.{shows_less}
use Rattle.xor_chunks.proofs.BitPlaces.{pass_kept_next}
use Rattle.xor_chunks.proofs.passing.pass_within.Goals as goal

pub returns-clause-passed : goal.returns-clause-passed
returns-clause-passed c = λ bits last same_time same_delta wide inside shows long.
    let given : cast_signed w128 (cast_unsigned w128 c.from.result) ≡ c.in_ok-change.change = first_of (search rules, grind (arith, ints)) in
    let same : c.in_ok-time.time ≡ cast_signed w64 (cast_unsigned w64 c.in_ok-time.time) = search rules in
    let told : time_after c.args.time (pos c.args.delta +ℤ cast_signed w128 (cast_unsigned w128 c.from.result)) ≡ Ok (c.in_ok-time.time, c.in_ok-time.delta) = search rules in
    let times : time_after c.args.time (pos c.args.delta +ℤ c.in_ok-change.change) ≡ Ok (cast_signed w64 (cast_unsigned w64 c.in_ok-time.time), c.in_ok-time.delta) =
    ap (λ (z : ℤ). time_after c.args.time (pos c.args.delta +ℤ z)) (sym given) ∙ told ∙ ap (λ (z : ℤ). Ok (z, c.in_ok-time.delta)) same in
    pass_kept_next c.in_ok-change.known c.in_ok-passed.passed _ _ _ _ _ _ _ same_time same_delta inside
    (c.in_ok-change.ensures.told bits (shows_less _ _ _ bits (omega arith) shows)) (c.in_ok-passed.ensures.passed bits last.pattern last.window wide (shows_less _ 37 _ bits (omega (arith, c.in_ok-change.ensures.few)) shows) long) times
