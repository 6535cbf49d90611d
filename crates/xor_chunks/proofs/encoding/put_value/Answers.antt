use Rattle.std.proofs.Common.{◌++◌, List, Bool, ap, sym, ◌∙◌}
use Rattle.wire_bytes.specs.Bits.{bits_of}
use Rattle.xor_chunks.proofs.Codes.{put_one, put_two, value_same, value_within, value_opens, is_unset, opened_head}
use Rattle.xor_chunks.proofs.encoding.put_value.Goals as goal

pub returns-then-change-eq0 : goal.returns-then-change-eq0
returns-then-change-eq0 c =
    let value = value_same _ _ c.if-change-eq0.true in
    record { bits = put_one c.put.new.writer c.args.writer.now c.args.code c.and_field.result _ _ c.in_ok-put.ensures c.and_field.ensures.bits value.0; window = value.1 }

pub returns-in-Set : goal.returns-in-Set
returns-in-Set c =
    let value = value_within _ _ _ c.if-change-eq0.false (sym c.window_to_reuse.ensures ∙ c.in-Set.is) in
    let tail = ap (λ n. bits_of n c.field.result) c.width.ensures.width ∙ ap (bits_of c.in-Set.set.width) c.field.ensures in
    record {
      bits = put_two c.put_bits.new.self c.put-in-Set.new.writer c.args.writer.now c.args.code c.and_field-in-Set.result _ _ _ c.in_ok-put_bits.ensures.ok c.in_ok-put-2.ensures c.and_field-in-Set.ensures.bits (ap (λ (a : List Bool). bits_of 2 2 ++ a) tail ∙ value.0);
      window = value.1;
    }

pub returns : goal.returns
returns c =
    let set = c.around-set.result in
    let value = value_opens _ _ _ c.if-change-eq0.false (sym c.window_to_reuse.ensures ∙ is_unset _ c.in_default.not-Set) c.around-set.ensures in
    let tail = ap (λ n. bits_of n c.field-2.result) c.width-3.ensures.width ∙ ap (bits_of set.width) c.field-2.ensures in
    let head = opened_head _ _ _ _ _ _ _ c.and_field-2.ensures.bits c.and_field-3.ensures.bits c.and_field-4.ensures.bits in
    let fields =
    ap (λ n. (bits_of 2 3 ++ bits_of 5 n) ++ bits_of 6 c.from-2.result) (c.from.ensures ∙ c.lead.ensures) ∙ ap (λ n. (bits_of 2 3 ++ bits_of 5 set.lead) ++ bits_of 6 n) (c.from-2.ensures ∙ c.width-2.ensures.width) in
    record {
      bits = put_two c.put_bits-2.new.self c.put-2.new.writer c.args.writer.now c.args.code c.and_field-4.result _ _ _ c.in_ok-put_bits-2.ensures.ok c.in_ok-put-3.ensures head
          (ap (λ (a : List Bool). a ++ bits_of c.width-3.result c.field-2.result) fields ∙ ap (λ (a : List Bool). (bits_of 2 3 ++ bits_of 5 set.lead) ++ bits_of 6 set.width ++ a) tail ∙ value.0);
      window = value.1;
    }
