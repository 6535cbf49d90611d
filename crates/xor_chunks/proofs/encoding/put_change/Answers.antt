use Rattle.std.proofs.Common.{◌++◌, ap, sym, ◌∙◌, append_assoc}
use Rattle.std.specs.Int.{w64}
use Rattle.std.proofs.lemmas.Int.{to_z-of_z}
use Rattle.std.proofs.lemmas.List.{append-nil}
use Rattle.wire_bytes.specs.Bits.{bits_of}
use Rattle.xor_chunks.proofs.Codes.{put_none, put_14, put_17, put_20, put_64}
use Rattle.xor_chunks.proofs.encoding.put_change.Goals as goal

pub returns-then-change-eq0-clause-bits : goal.returns-then-change-eq0-clause-bits
returns-then-change-eq0-clause-bits c =
    ap (λ a. c.args.writer.now ++ a) (c.row.ensures.bits ∙ put_none _ _ c.ranges.change (to_z-of_z w64 c.args.change c.ranges.change) c.if-change-eq0.true)

pub returns-then-fits_field-clause-bits : goal.returns-then-fits_field-clause-bits
returns-then-fits_field-clause-bits c =
    let put = put_14 _ _ c.ranges.change (to_z-of_z w64 c.args.change c.ranges.change) _ c.if-change-eq0.false (sym c.fits_field.ensures ∙ c.if-fits_field.true) c.cast_unsigned-bits.ensures in
    ap (λ a. c.args.writer.now ++ a) (c.row-then-fits_field.ensures.bits ∙ put)

pub returns-then-fits_field-2-clause-bits : goal.returns-then-fits_field-2-clause-bits
returns-then-fits_field-2-clause-bits c =
    let put = put_17 _ _ c.ranges.change (to_z-of_z w64 c.args.change c.ranges.change) _ c.if-change-eq0.false (sym c.fits_field.ensures ∙ c.if-fits_field.false) (sym c.fits_field-2.ensures ∙ c.if-fits_field-2.true) c.cast_unsigned-bits.ensures in
    ap (λ a. c.args.writer.now ++ a) (c.row-then-fits_field-2.ensures.bits ∙ put)

pub returns-then-fits_field-3-clause-bits : goal.returns-then-fits_field-3-clause-bits
returns-then-fits_field-3-clause-bits c =
    let put = put_20 _ _ c.ranges.change (to_z-of_z w64 c.args.change c.ranges.change) _ c.if-change-eq0.false (sym c.fits_field.ensures ∙ c.if-fits_field.false) (sym c.fits_field-2.ensures ∙ c.if-fits_field-2.false) (sym c.fits_field-3.ensures ∙ c.if-fits_field-3.true) c.cast_unsigned-bits.ensures in
    ap (λ a. c.args.writer.now ++ a) (c.row-then-fits_field-3.ensures.bits ∙ put)

pub returns-clause-bits : goal.returns-clause-bits
returns-clause-bits c =
    let put = put_64 _ _ c.ranges.change (to_z-of_z w64 c.args.change c.ranges.change) _ c.if-change-eq0.false (sym c.fits_field.ensures ∙ c.if-fits_field.false) (sym c.fits_field-2.ensures ∙ c.if-fits_field-2.false) (sym c.fits_field-3.ensures ∙ c.if-fits_field-3.false) c.cast_unsigned-bits.ensures in
    let field = bits_of 64 c.cast_unsigned-bits.result in
    ap (λ a. c.put_bits-2.new.self ++ a) c.none.ensures ∙ append-nil c.put_bits-2.new.self ∙ c.in_ok-put_bits-2.ensures.ok ∙ ap (λ a. a ++ field) c.in_ok-put_bits.ensures.ok
    ∙ append_assoc c.args.writer.now (bits_of 4 15) field ∙ ap (λ a. c.args.writer.now ++ a) put
