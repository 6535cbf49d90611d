use Rattle.std.proofs.Common.{length, ap, sym, ◌∙◌, arith}
use Rattle.wire_bytes.specs.Position.{Position}
use Rattle.store_chunks.proofs.OneChunk.{begins_behind, same_bytes}
use Rattle.store_chunks.proofs.chunks.chunk_len.Goals as goal

pub returns-then-at-bytes-clause-value : goal.returns-then-at-bytes-clause-value
returns-then-at-bytes-clause-value c = sym (begins_behind c.args.bytes.now c.args.at c.if-at-bytes.true)

pub overflow_add-result : goal.overflow_add-result
overflow_add-result c =
    let same = same_bytes c.at-cursor.result c.take_uvarint.new.self c.in-Ok.size c.in-Ok.ensures.exact ∙ ap (λ (p : Position). length p.bytes) c.at-cursor.ensures in
    omega (arith, same, c.place.ensures.place, c.place.ensures.within, c.saturating_sub.ensures, c.if-prove.false, c.if-size-le-MOST.true)

pub overflow_add-result-in-Ok : goal.overflow_add-result-in-Ok
overflow_add-result-in-Ok c =
    let same = same_bytes c.at-cursor.result c.take_uvarint.new.self c.in-Ok.size c.in-Ok.ensures.exact ∙ ap (λ (p : Position). length p.bytes) c.at-cursor.ensures in
    omega (arith, same, c.place.ensures.place, c.place.ensures.within, c.saturating_sub.ensures, c.if-prove.false, c.if-size-le-MOST.true)

pub returns-in-Ok-clause-within : goal.returns-in-Ok-clause-within
returns-in-Ok-clause-within c =
    let same = same_bytes c.at-cursor.result c.take_uvarint.new.self c.in-Ok.size c.in-Ok.ensures.exact ∙ ap (λ (p : Position). length p.bytes) c.at-cursor.ensures in
    (omega (arith, c.if-at-bytes.false), omega (arith, c.if-at-bytes.false, same, c.place.ensures.place, c.place.ensures.within, c.saturating_sub.ensures, c.if-size-le-MOST.true))
