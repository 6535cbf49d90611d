use Rattle.std.proofs.Common.{◌≡◌, pos, rules, ap, refl, sym, ◌∙◌, arith}
use Rattle.std.specs.Int.{w128, cast_signed, cast_unsigned}
use Rattle.std.proofs.lemmas.Int.{ints}
use Rattle.std.proofs.lemmas.Result.{err_from_is_err_and}
use Rattle.xor_chunks.specs.Known.{state_of}
use Rattle.wire_bytes.specs.Buffer.{front}
use Rattle.xor_chunks.proofs.Takes.{no_change}
use Rattle.xor_chunks.proofs.Peeks.{next_known, shows_less}
use Rattle.xor_chunks.proofs.step.next.Goals as goal

pub next_by_long_change-requires : goal.next_by_long_change-requires
next_by_long_change-requires c = ap (front 4) c.peek-word.ensures.same ∙ sym (c.peek-word.ensures.bits.first 4 (omega arith)) ∙ c.in_default.ensures.none

pub returns-in_err-after : goal.returns-in_err-after
returns-in_err-after c =
    let p = err_from_is_err_and c.from_residual.result c.from_residual.ensures.1 in
    let word = c.peek-word.ensures in
    let told = no_change c.args.reader (sym (word.bits.first 1 (omega arith)) ∙ c.if-word-eq0.true) in
    rw (p.1, p.2) (next_known 1 (state_of c.args.last) (pos 0) (pos 0) c.args.reader c.peek-word.new.self told refl word.same ∙ c.in_err-after.ensures)

pub returns-then-word-eq0 : goal.returns-then-word-eq0
returns-then-word-eq0 c =
    let word = c.peek-word.ensures in
    let told = no_change _ (sym (word.bits.first 1 (omega arith)) ∙ c.if-word-eq0.true) in
    next_known 1 _ _ _ _ _ told refl word.same ∙ c.in_ok-after.ensures

pub returns-in_err-after-2 : goal.returns-in_err-after-2
returns-in_err-after-2 c =
    let p = err_from_is_err_and c.from_residual-in_err-after-2.result c.from_residual-in_err-after-2.ensures.1 in
    let word = c.peek-word.ensures in
    let told = c.in-Some.ensures.told c.args.reader (shows_less c.peek-word.result 37 24 c.args.reader (omega arith) word.bits) in
    let change : cast_signed w128 (cast_unsigned w128 c.from.result) ≡ c.in-Some.change = first_of (search rules, grind (arith, ints)) in
    rw (p.1, p.2) (next_known c.in-Some.known (state_of c.args.last) c.in-Some.change _ c.args.reader c.peek-word.new.self told change word.same ∙ c.in_err-after-2.ensures)

pub returns : goal.returns
returns c =
    let word = c.peek-word.ensures in
    let told = c.in-Some.ensures.told c.args.reader (shows_less _ _ 24 c.args.reader (omega arith) word.bits) in
    let change : cast_signed w128 (cast_unsigned w128 c.from.result) ≡ c.in-Some.change = first_of (search rules, grind (arith, ints)) in
    next_known _ _ _ _ _ _ told change word.same ∙ c.in_ok-after-2.ensures
