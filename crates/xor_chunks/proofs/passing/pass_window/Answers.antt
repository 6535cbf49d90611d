use Rattle.std.proofs.Common.{◌≡◌, ◌+◌, ◌-◌, ◌^◌, ℕ, negsuc, ◌+ℤ◌, ◌≤ℤ◌, drop, rules, refl, sym, ap, ◌∙◌, arith}
use Rattle.std.specs.Int.{w64, cast_signed, cast_unsigned}
use Rattle.std.proofs.lemmas.Int.{ints}
use Rattle.wire_bytes.specs.Bits.{bits_in}
use Rattle.xor_chunks.specs.Known.{state_of}
use Rattle.xor_chunks.specs.Spans.{end_at}
use Rattle.xor_chunks.proofs.Peeks.{shows_less}
use Rattle.xor_chunks.proofs.Times.{steady_after}
use Rattle.xor_chunks.proofs.BitPlaces.{at_time, pass_steadily, kept_on, bits_left}
use Rattle.xor_chunks.proofs.passing.pass_window.Goals.{then-is_steady, else-is_steady+in-Some}
use Rattle.xor_chunks.proofs.passing.pass_window.Goals as goal

pub loop-left-init : goal.loop-left-init
loop-left-init c =
    let same : c.args.second.time ≡ cast_signed w64 (cast_unsigned w64 c.args.second.time) = search rules in
    (ap (λ z. end_at c.args.count (at_time z c.args.second.delta (state_of c.args.second)) (drop c.args.begin (bits_in c.args.bytes.now))) same, c.requires.within, omega arith, c.requires.steps.0, c.requires.steps.1)

pub loop-left-preserved : goal.loop-left-preserved
loop-left-preserved c =
    let second = state_of c.args.second in
    let bits = bits_in c.args.bytes.now in
    let time = cast_signed w64 c.loop-left.time-bits in
    let delta = c.loop-left.delta in
    let low : negsuc (2 ^ 63 - 1) ≤ℤ time = omega (arith, ints, c.loop-left.auto.time) in
    let shows = shows_less c.word_at-word.result 57 37 (drop c.loop-left.place bits) (omega arith) c.word_at-word.ensures in
    let long = bits_left c.loop-left.place _ c.args.bytes.now c.if-place-greatest.true refl c.requires.room in
    elim c.if-is_steady.branch [
      | then-is_steady w ↦
          let told = c.is_steady.ensures.told w.if-is_steady.true in
          let soon = c.is_steady.ensures.soon w.if-is_steady.true in (
            kept_on c.args.count c.loop-left.left c.loop-left.place (3 + c.width-width.result) c.if-is_steady.place second (drop c.args.begin bits) bits time _ _ delta delta _ c.loop-left.invariant.0 c.loop-left-test.true w.place-is w.time-is w.delta-is
                (pass_steadily c.word_at-word.result (3 + c.width-width.result) (at_time time delta second) (cast_signed w64 (cast_unsigned w64 (time +ℤ cast_signed w64 delta))) (drop c.loop-left.place bits) told shows long (ap (λ (n : ℕ). 3 + n) c.width-width.ensures.width) c.requires.inside
                (steady_after time delta low soon c.loop-left.invariant.3 c.loop-left.invariant.4)),
            omega (arith, c.requires.room),
            omega (arith, c.loop-left.invariant.2),
            omega (arith, c.loop-left.invariant.3),
            omega arith,
          )
      | else-is_steady+in-Some w ↦
          let same : w.in-Some.after ≡ cast_signed w64 (cast_unsigned w64 w.in-Some.after) = search rules in
          let found = w.in-Some.ensures.passed (drop c.loop-left.place bits) (at_time time delta second) refl refl (sym c.width-width.ensures.width) c.requires.inside shows long in (
            kept_on _ _ _ w.in-Some.passed c.if-is_steady.place second (drop c.args.begin bits) bits time _ _ delta w.in-Some.step _ c.loop-left.invariant.0 c.loop-left-test.true w.place-is (w.time-is ∙ sym same) w.delta-is found,
            omega (arith, w.in-Some.ensures.few, c.requires.room),
            omega (arith, c.loop-left.invariant.2),
            omega (arith, w.delta-is, w.in-Some.ensures.steps.0),
            omega (arith, w.in-Some.ensures.steps.1),
          )
    ]

pub returns : goal.returns
returns c = record {
  end = c.loop-left.invariant.0;
  within = c.loop-left.invariant.1;
  fewer = c.loop-left.invariant.2;
}
