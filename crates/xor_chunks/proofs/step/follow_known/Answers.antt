use Rattle.std.proofs.Common.{◌≡◌, Ok, Err, ap, pos, ◌+ℤ◌, refl, sym, ◌∙◌, rules}
use Rattle.std.proofs.lemmas.Result.{err_from_is_err_and}
use Rattle.std.specs.Int.{w64, cast_signed, cast_unsigned}
use Rattle.xor_chunks.specs.Known.{state_of}
use Rattle.xor_chunks.specs.Steps.{time_after}
use Rattle.xor_chunks.proofs.Peeks.{follow_lacks, follow_outside, follow_time}
use Rattle.xor_chunks.proofs.step.follow_known.Goals as goal

pub returns-in_err-pattern : goal.returns-in_err-pattern
returns-in_err-pattern c =
    let p = err_from_is_err_and c.from_residual.result c.from_residual.ensures.1 in
    rw (p.1, p.2) (follow_lacks c.args.known (state_of c.args.last) _ _ _ c.in_err-pattern.ensures)

pub returns-then-not-is_inside : goal.returns-then-not-is_inside
returns-then-not-is_inside c = follow_outside _ _ _ _ _ _ _ c.in_ok-pattern.ensures (sym c.is_inside.ensures ∙ c.if-not-is_inside.true)

pub returns-in_err-time : goal.returns-in_err-time
returns-in_err-time c =
    let p = err_from_is_err_and c.from_residual-in_err-time.result c.from_residual-in_err-time.ensures.1 in
    let t : time_after c.args.last.time (pos c.args.last.delta +ℤ c.args.change) ≡ Err c.in_err-time.field-0.0 = search rules in
    rw (p.1, p.2) (follow_time c.args.known (state_of c.args.last) c.args.change c.args.reader.now c.in_ok-pattern.pattern c.in_ok-pattern.window c.take_value.new.reader c.in_ok-pattern.ensures (sym c.is_inside.ensures ∙ c.if-not-is_inside.false) ∙ rw t refl)

pub returns : goal.returns
returns c =
    let t : time_after c.args.last.time (pos c.args.last.delta +ℤ c.args.change) ≡ Ok (c.in_ok-time.time, c.in_ok-time.delta) = search rules in
    let same : c.in_ok-time.time ≡ cast_signed w64 (cast_unsigned w64 c.in_ok-time.time) = search rules in
    follow_time _ _ _ _ _ _ _ c.in_ok-pattern.ensures (sym c.is_inside.ensures ∙ c.if-not-is_inside.false)
    ∙ rw t (ap (λ z. Ok (record { time = z; delta = c.in_ok-time.delta; pattern = c.in_ok-pattern.pattern; window = c.in_ok-pattern.window }, c.take_value.new.reader)) same)
