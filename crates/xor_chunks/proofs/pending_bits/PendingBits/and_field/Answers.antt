use Rattle.std.proofs.Common.{◌+◌, ◌++◌, length, sym, ap, ◌∙◌}
use Rattle.wire_bytes.specs.Bits.{bits_of}
use Rattle.wire_bytes.proofs.BitLists.{length-bits_of}
use Rattle.xor_chunks.proofs.Codes.{code_field, code_room}
use Rattle.xor_chunks.proofs.pending_bits.PendingBits.and_field.Goals as goal

pub invariant_of-result : goal.invariant_of-result
invariant_of-result c =
    let i = c.self.inside in
    let room = code_room _ _ _ _ c.self.view_is c.requires in
    (room, (code_field _ _ _ _ c.self.invariant.1 room).0)

pub returns-clause-bits : goal.returns-clause-bits
returns-clause-bits c =
    let i = c.self.inside in
    let room = code_room _ _ _ _ c.self.view_is c.requires in
    (code_field _ _ _ _ c.self.invariant.1 room).1 ∙ ap (λ a. a ++ bits_of c.args.width c.args.number) c.self.view_is

pub returns-clause-length : goal.returns-clause-length
returns-clause-length c =
    let i = c.self.inside in
    length-bits_of _ _ ∙ ap (λ n. n + c.args.width) (sym (length-bits_of _ _) ∙ ap length c.self.view_is)
