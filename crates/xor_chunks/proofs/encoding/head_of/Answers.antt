use Rattle.std.proofs.Common.{◌∙◌, ◌++◌, ap, rules}
use Rattle.std.specs.Int.{w16, w64, to_be_bytes}
use Rattle.std.proofs.lemmas.Int.{to_z-of_z}
use Rattle.wire_bytes.specs.Written.{varint_text}
use Rattle.xor_chunks.proofs.PutTexts.{head_bits}
use Rattle.xor_chunks.proofs.encoding.head_of.Goals as goal

pub returns-clause-bits : goal.returns-clause-bits
returns-clause-bits c =
    head_bits _ _ _ _ _ _
    (c.in_ok-put_u16.ensures.ok ∙ ap (λ x. x ++ to_be_bytes w16 c.args.count) (c.reserve.ensures.items ∙ c.new-bytes.ensures.items))
    (c.in_ok-put_varint.ensures.ok ∙ ap (λ t. c.put_u16.new.out.items ++ varint_text t) (to_z-of_z w64 c.args.first.time (search rules))) c.in_ok-put_u64.ensures.ok
