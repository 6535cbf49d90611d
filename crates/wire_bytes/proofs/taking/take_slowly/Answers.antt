use Rattle.std.proofs.Common.{◌<◌, ◌-◌, length, refl, arith}
use Rattle.wire_bytes.specs.Buffer.{buffered}
use Rattle.wire_bytes.proofs.Buffers.{joined_fields}
use Rattle.wire_bytes.proofs.Crossings.{lacks_later, never_short}
use Rattle.wire_bytes.proofs.taking.take_slowly.Goals as goal

pub returns-in_err-low-clause-short : goal.returns-in_err-low-clause-short
returns-in_err-low-clause-short c =
    let few : length (buffered c.args.word c.args.count c.args.bytes.now) < c.args.need = omega (arith, lacks_later (c.args.need - 32) c.in_ok-high.high 32 _ _ c.in_ok-high.ensures.taken (c.in_err-low.ensures.short.0 refl), c.if-need-le32.false) in
    rw c.from_residual-in_err-low.ensures (λ _. few, λ _. refl)

pub returns : goal.returns
returns c =
    let high = c.in_ok-high in
    let low = c.in_ok-low in
    let all = joined_fields _ _ _ _ _ _ high.ensures.number low.ensures.number c.if-need-le32.false c.requires.few high.ensures.taken low.ensures.taken in
    record { taken = all.0; number = all.1; buffer = low.ensures.buffer; short = never_short c.args.need _ _ _ all.0 }
